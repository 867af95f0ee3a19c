-- An answer that is a definition's, but where it is out of memory.
use Rattle.std.specs.Prelude.{◌≡◌, List, ◌++◌, Result, Ok, Err}
use Rattle.text_lines.specs.ModelTree.declared.faults.Fault.{Fault}
use Rattle.text_lines.specs.ModelTree.declared.faults.CheckStop.{CheckStop}
use Rattle.sim_model.specs.declared.plain.Command.{Command}
use Rattle.text_lines.specs.ModelTree.Stops.{IfRefused}

-- a value or a refusal is the defined one
abbrev pub IsNamedAs : {T : Type 0} → Result T CheckStop → Result T Fault → Type 0
IsNamedAs (Ok v) wanted = wanted ≡ Ok v
IsNamedAs (Err stop) wanted = IfRefused stop (λ fault. wanted ≡ Err fault)

-- what a whole script is, where these commands are named and the others are as given
abbrev pub behind : List Command → Result (List Command) Fault → Result (List Command) Fault
behind script (Ok later) = Ok (script ++ later)
behind script (Err f) = Err f
