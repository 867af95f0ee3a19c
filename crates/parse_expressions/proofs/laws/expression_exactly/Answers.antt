use Rattle.parse_expressions.proofs.Sound.{expression_ok}
use Rattle.parse_expressions.proofs.Complete.{expression_reads}
use Rattle.parse_expressions.proofs.laws.expression_exactly.Goals as goal

pub returns : goal.returns
returns c depth e ts rest = (λ h. expression_reads depth e ts rest h, λ h. expression_ok depth ts rest e h)
