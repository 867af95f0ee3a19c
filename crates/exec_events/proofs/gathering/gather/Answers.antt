use Rattle.std.proofs.Common.{[], Ok, sym, ap, ◌∙◌}
use Rattle.std.proofs.lemmas.List.{drop_all}
use Rattle.flat_design.specs.Code.{event_terms}
use Rattle.kernel_view.specs.SimModel.Values.{on_ok}
use Rattle.kernel_view.specs.Standings.{next_here}
use Rattle.exec_events.proofs.Onces.{added}
use Rattle.exec_events.proofs.Gathered.{adds, all_added}
use Rattle.exec_events.proofs.Finding.{one_more}
use Rattle.exec_events.proofs.gathering.gather.Goals as goal

pub loop-event-init : goal.loop-event-init
loop-event-init c = λ d i h there xs is.
    ap (λ us. adds (next_here d c.args.p i) c.args.all us (event_terms c.args.events.now)) c.new-found.ensures
    ∙ ap (λ r. on_ok r (λ ys. Ok (added c.args.all [] ys))) is

pub loop-event-preserved : goal.loop-event-preserved
loop-event-preserved c = λ d i h there xs is.
    one_more (next_here d c.args.p i) c.args.events.now c.loop-event.event-index c.event-item.result c.loop-event-test.true c.event-item.is c.args.all c.loop-event.found (added c.args.all [] xs) (c.loop-event.invariant d i h there xs is)
    c.event_used.result c.add_named.new.events (c.event_used.ensures d i h there) c.in-Ok.ensures

pub returns : goal.returns
returns c = λ d i h there xs is.
    all_added (next_here d c.args.p i) c.args.all c.loop-event.found xs
    (ap (λ es. adds (next_here d c.args.p i) c.args.all c.loop-event.found (event_terms es)) (sym (drop_all c.loop-event.event-index c.args.events.now c.loop-event-test.false)) ∙ c.loop-event.invariant d i h there xs is)
