-- What is told of a value in a word.
use Rattle.std.specs.Prelude.{◌≡◌, Result, Ok}
use Rattle.sim_model.specs.LogicValues.declared.kinds.Value.{Value}
use Rattle.flat_design.specs.declared.faults.RunFault.{RunFault}
use Rattle.sim_model.specs.Values.{bool_value, signed, unsigned}
use Rattle.expr_eval.specs.declared.words.Word.{Word}
use Rattle.expr_eval.specs.declared.words.Word.TheVariants as word

-- an expression that gives o gives what the word tells, where it tells something
abbrev pub Says : Word → Result Value RunFault → Type 0
Says (word.Truth b) o = o ≡ Ok (bool_value b)
Says (word.Signed n) o = o ≡ Ok (signed n)
Says (word.Unsigned n) o = o ≡ Ok (unsigned n)
Says word.Untold o = Unit {0}
