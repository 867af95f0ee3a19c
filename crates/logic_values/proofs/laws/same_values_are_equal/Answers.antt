use Rattle.logic_values.proofs.SameValueLaws.{same_exactly_equal}
use Rattle.logic_values.proofs.laws.same_values_are_equal.Goals as goal

pub returns : goal.returns
returns c = same_exactly_equal
