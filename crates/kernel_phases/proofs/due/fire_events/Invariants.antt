use Rattle.std.proofs.Common.{drop}
use Rattle.kernel_phases.proofs.Setting.{Fires}
use Rattle.kernel_phases.proofs.due.fire_events.Given as goal

abbrev pub invariant-loop-event : goal.invariant-loop-event
invariant-loop-event l = Fires (drop l.event-index l.events) l.events l.initial.k l.k
