use Rattle.std.proofs.Common.{sym, ◌∙◌}
use Rattle.model_tree.specs.Views.{event_of}
use Rattle.tick_trees.specs.Times.{in_event}
use Rattle.tick_trees.specs.Unfit.{unfit_in}
use Rattle.tick_trees.proofs.Firsts.{goes_on, found_at, none_left}
use Rattle.tick_trees.proofs.parts.in_events.Goals as goal

pub loop-event-preserved : goal.loop-event-preserved
loop-event-preserved c =
    goes_on (unfit_in c.args.r) in_event event_of c.args.events.now c.loop-event.event-index c.event-item.result c.loop-event-test.true c.event-item.is c.loop-event.invariant (sym c.in_event.ensures ∙ c.in-None.is)

pub returns-in-Some : goal.returns-in-Some
returns-in-Some c =
    sym (found_at (unfit_in c.args.r) in_event event_of c.args.events.now c.loop-event.event-index c.event-item.result c.in-Some.unfit c.loop-event-test.true c.event-item.is c.loop-event.invariant (sym c.in_event.ensures ∙ c.in-Some.is))

pub returns : goal.returns
returns c = sym (none_left (unfit_in c.args.r) in_event event_of c.args.events.now c.loop-event.event-index c.loop-event-test.false c.loop-event.invariant)
