use Rattle.transport_phases.proofs.ExclusionLemmas.{one_requests, one_responds}
use Rattle.transport_phases.proofs.laws.one_at_a_time.Goals as goal

pub returns : goal.returns
returns c = record { requests = one_requests; responds = one_responds }
