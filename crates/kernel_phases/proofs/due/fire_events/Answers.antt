use Rattle.std.proofs.Common.{◌+◌, drop, subst, get_or}
use Rattle.std.proofs.lemmas.List.{drop_more}
use Rattle.kernel_phases.proofs.Setting.{Fires, none_fired, one_fired}
use Rattle.kernel_phases.proofs.due.fire_events.Goals as goal

pub loop-event-preserved : goal.loop-event-preserved
loop-event-preserved c =
    one_fired (get_or c.args.events.now c.loop-event.event-index 0) (drop (c.loop-event.event-index + 1) c.args.events.now) c.args.events.now c.args.k.now c.loop-event.k c.fire.new.s
    (subst (λ xs. Fires xs c.args.events.now c.args.k.now c.loop-event.k) (drop_more c.args.events.now c.loop-event.event-index 0 c.loop-event-test.true) c.loop-event.invariant) c.fire.ensures.sound c.fire.ensures.rouses

pub loop-event-init : goal.loop-event-init
loop-event-init c = none_fired c.args.events.now c.args.k.now c.requires
