use Rattle.std.proofs.Common.{◌≡◌, ◌++◌, map, take}
use Rattle.std.specs.List.{flat_map}
use Rattle.flat_design.specs.Code.{event_term}
use Rattle.order_free.specs.Uses.{deeds_of_event}
use Rattle.order_free.proofs.terms.add_events.Given as goal

abbrev pub invariant-loop-event : goal.invariant-loop-event
invariant-loop-event l = l.deeds.items ≡ l.fn.deeds.items ++ flat_map deeds_of_event (map event_term (take l.event-index l.events))
