use Rattle.laws_design.proofs.Parts.{signals_typed, variables_typed}
use Rattle.laws_design.proofs.first_values.first_values_have_their_types.Goals as goal

pub returns-clause-signals : goal.returns-clause-signals
returns-clause-signals c = λ m d none design n p e. signals_typed m d none design n p e

pub returns-clause-variables : goal.returns-clause-variables
returns-clause-variables c = λ m d none design n p e. variables_typed m d none design n p e
