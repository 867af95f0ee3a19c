-- Words without options.
use Rattle.std.specs.Prelude.{◌==◌, Bool, true, not, [], ◌∷◌, None}
use Rattle.clap.specs.Words.{Text}
use Rattle.sim_model.specs.declared.plain.Log.TheVariants as log
use Rattle.command_line.specs.declared.modes.Order.TheVariants as order
use Rattle.command_line.specs.Line.{Simulation, Ordered}
use Rattle.command_line.specs.Numbers.{default_budget}

-- the text does not begin with `-` (45)
abbrev pub has_no_hyphen : Text → Bool
has_no_hyphen [] = true
has_no_hyphen (b ∷ bs) = not (b == 45)

-- these files, and all else as by default
abbrev pub plain_simulation : Text → Text → Simulation
plain_simulation model script = record {
  model = model;
  script = script;
  vcd = None;
  choices = None;
  budget = default_budget;
  rule = Ordered order.First;
  log = log.Prints;
}
