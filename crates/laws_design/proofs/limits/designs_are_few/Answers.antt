use Rattle.laws_design.proofs.FewEvents.{processes-few, events-few}
use Rattle.laws_design.proofs.limits.designs_are_few.Goals as goal

pub returns : goal.returns
returns c = record { processes = processes-few; events = events-few }
