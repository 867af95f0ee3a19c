use Rattle.parse_actions.proofs.Laws.{operation_ok, operation_reads}
use Rattle.parse_actions.proofs.exactly.operation_exactly.Goals as goal

pub returns : goal.returns
returns c depth line o ts rest end = (λ h. operation_reads depth line o ts rest h.0 h.1 end, λ h. operation_ok depth ts rest (line, o) h)
