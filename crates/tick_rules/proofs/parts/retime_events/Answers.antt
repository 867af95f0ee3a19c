use Rattle.model_tree.specs.Views.{event_of}
use Rattle.tick_trees.specs.Retimed as retimed
use Rattle.tick_trees.specs.Ticks.{ticks_span}
use Rattle.tick_trees.proofs.Each.{one_more}
use Rattle.tick_rules.proofs.parts.retime_events.Goals as goal

pub loop-event-preserved : goal.loop-event-preserved
loop-event-preserved c =
    one_more event_of (retimed.event (ticks_span c.args.r)) c.loop-event.events c.args.events.now c.loop-event.event-index c.event-item.result c.retime_event.new.event c.loop-event-test.true c.retime_event.ensures c.loop-event.invariant
