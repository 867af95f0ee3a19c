use Rattle.std.proofs.Common.{◌≡◌, drop, None}
use Rattle.flat_design.specs.Code.{event_terms}
use Rattle.kernel_view.specs.Standings.{Everywhere}
use Rattle.exec_events.proofs.Gathered.{faults}
use Rattle.exec_events.proofs.gathering.first_event_fault.Given as goal

abbrev pub invariant-loop-event : goal.invariant-loop-event
invariant-loop-event l = Everywhere l.k l.p (λ h. faults h l.fault (event_terms (drop l.event-index l.events)) ≡ faults h None (event_terms l.events))
