-- What a step leaves alone.
use Rattle.std.specs.Prelude.{◌≡◌, Bool, List, Result, Ok, Err}
use Rattle.flat_design.specs.declared.design.Design.{Design}
use Rattle.flat_design.specs.Code.{Statement}
use Rattle.flat_design.specs.Facts.{facts}
use Rattle.flat_design.specs.declared.faults.RunFault.{RunFault}
use Rattle.exec_channels.specs.SimModel.Configuration.{Config, Told}
use Rattle.exec_channels.specs.SimModel.declared.plain.Command.{Command}

-- of a configuration the design and the script's rest, and what was told
pub record Standing : Type 0 where
  pub design : Design
  pub script : List Command
  pub told : List Told

abbrev pub standing : Config → Standing
standing c = record { design = c.design; script = c.script; told = c.trace.told }

-- these stay
abbrev pub Quiet : Config → Config → Type 0
Quiet c d = standing d ≡ standing c

-- the design and the script's rest stay
abbrev pub Keeps : Config → Config → Type 0
Keeps c d = (d.design ≡ c.design) × (d.script ≡ c.script)

-- unless it is at fault
abbrev pub QuietIfOk : Config → Result Config RunFault → Type 0
QuietIfOk c (Ok d) = Quiet c d
QuietIfOk c (Err f) = Unit {0}

-- whether a statement is a print
abbrev pub is_print : Statement → Bool
is_print s = (facts s).prints
