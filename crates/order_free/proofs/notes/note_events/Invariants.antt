use Rattle.std.proofs.Common.{take}
use Rattle.order_free.specs.Tables.{Took, claims, uses_of_events}
use Rattle.order_free.proofs.notes.note_events.Given as goal

abbrev pub invariant-loop-event : goal.invariant-loop-event
invariant-loop-event l = Took (claims l.x (uses_of_events (take l.event-index l.events))) l.fn.tables l.tables
