use Rattle.std.proofs.Common.{sym, ap, ◌∙◌}
use Rattle.std.proofs.lemmas.List.{drop_all}
use Rattle.flat_design.specs.Code.{event_terms}
use Rattle.kernel_view.specs.Standings.{next_here}
use Rattle.exec_events.proofs.Gathered.{faults, none_left}
use Rattle.exec_events.proofs.Finding.{one_judged, one_unplaced}
use Rattle.exec_events.proofs.gathering.first_event_fault.Goals as goal

pub loop-event-preserved : goal.loop-event-preserved
loop-event-preserved c = λ d i h there.
    one_judged (next_here d c.args.p i) c.args.events.now c.loop-event.event-index c.event-item.result c.loop-event-test.true c.event-item.is c.loop-event.fault c.first_of-fault.result c.in-Ok.place c.event_at.result
    (c.in-Ok.ensures d i h there) (c.event_at.ensures d i h there) c.first_of-fault.ensures
    ∙ c.loop-event.invariant d i h there

pub returns-in-Err : goal.returns-in-Err
returns-in-Err c = λ d i h there.
    one_unplaced (next_here d c.args.p i) c.args.events.now c.loop-event.event-index c.event-item.result c.loop-event-test.true c.event-item.is c.loop-event.fault c.in-Err.first (c.in-Err.ensures d i h there)
    ∙ c.loop-event.invariant d i h there

pub returns : goal.returns
returns c = λ d i h there.
    none_left (next_here d c.args.p i) c.loop-event.fault
    ∙ ap (λ xs. faults (next_here d c.args.p i) c.loop-event.fault (event_terms xs)) (sym (drop_all c.loop-event.event-index c.args.events.now c.loop-event-test.false))
    ∙ c.loop-event.invariant d i h there
