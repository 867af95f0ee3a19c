use Rattle.check_expressions.proofs.Digits.{vector_type}
use Rattle.check_expressions.proofs.types.logic_type.Goals as goal

pub returns-else-v-eq1 : goal.returns-else-v-eq1
returns-else-v-eq1 c = vector_type c.args.v c.if-v-eq1.false
