use Rattle.std.proofs.Common.{List, subst}
use Rattle.std.specs.List.{flat_map}
use Rattle.flat_design.specs.EventCore.declared.event.Ev.{Ev}
use Rattle.order_free.specs.Uses.{uses_of_event}
use Rattle.order_free.specs.declared.uses.Use.{Use}
use Rattle.order_free.specs.Tables as tables
use Rattle.order_free.specs.Tables.{Took, claims}
use Rattle.order_free.proofs.Taking.{took_next, claims_next}
use Rattle.order_free.proofs.notes.note_events.Goals as goal

pub loop-event-init : goal.loop-event-init
loop-event-init c = tables.nothing c.args.tables.now

pub loop-event-preserved : goal.loop-event-preserved
loop-event-preserved c =
    took_next (λ (ys : List Ev). claims c.args.x (flat_map uses_of_event ys)) (λ (y : Ev). claims c.args.x (uses_of_event y)) (claims_next c.args.x uses_of_event) c.args.events.now c.loop-event.event-index _ c.loop-event-test.true c.args.tables.now _ _ c.loop-event.invariant
    (subst (λ (us : List Use). Took (claims c.args.x us) c.loop-event.tables c.note_if.new.tables) c.use_of_event.ensures c.in_ok-note_if.ensures)
