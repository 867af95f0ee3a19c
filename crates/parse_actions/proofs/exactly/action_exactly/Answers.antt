use Rattle.parse_actions.proofs.Laws.{action_ok, action_reads}
use Rattle.parse_actions.proofs.exactly.action_exactly.Goals as goal

pub returns : goal.returns
returns c depth line a ts rest end = (λ h. action_reads depth line a ts rest h.0 h.1 end, λ h. action_ok depth ts rest (line, a) h)
