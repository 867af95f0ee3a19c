use Rattle.std.proofs.Common.{◌≡◌, [], drop, List, Ok}
use Rattle.kernel_view.specs.EventCore.declared.event.Ev.{Ev}
use Rattle.flat_design.specs.Code.{event_terms}
use Rattle.kernel_view.specs.Standings.{Everywhere}
use Rattle.exec_events.specs.Named.{events_named}
use Rattle.exec_events.proofs.Onces.{added}
use Rattle.exec_events.proofs.Gathered.{adds}
use Rattle.exec_events.proofs.gathering.gather.Given as goal

abbrev pub invariant-loop-event : goal.invariant-loop-event
invariant-loop-event l = Everywhere l.k l.p (λ h. (xs : List Ev) → events_named h (event_terms l.events) ≡ Ok xs → adds h l.all l.found (event_terms (drop l.event-index l.events)) ≡ Ok (added l.all [] xs))
