use Rattle.parse_expressions.proofs.Complete.{begins_one}
use Rattle.parse_expressions.proofs.laws.one_expression.Goals as goal

pub returns : goal.returns
returns c = begins_one
