use Rattle.std.proofs.Common.{refl}
use Rattle.code_rules.specs.LogicValues.Digits.{digits}
use Rattle.code_terms.proofs.Logic.{vector_value}
use Rattle.code_terms.proofs.values.logic_value.Goals as goal

pub returns-else-v-eq1 : goal.returns-else-v-eq1
returns-else-v-eq1 c = vector_value c.args.v (c.vector_of_digits.ensures c.args.v (digits c.args.v) refl) c.if-v-eq1.false
