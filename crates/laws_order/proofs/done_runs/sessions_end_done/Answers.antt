use Rattle.laws_order.proofs.Dones.{done-stops, stops-done}
use Rattle.laws_order.proofs.done_runs.sessions_end_done.Goals as goal

pub returns-clause-done : goal.returns-clause-done
returns-clause-done c = done-stops

pub returns-clause-only : goal.returns-clause-only
returns-clause-only c = stops-done
