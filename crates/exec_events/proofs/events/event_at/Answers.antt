use Rattle.std.proofs.Common.{Ok, sym, ap, ◌∙◌}
use Rattle.kernel_view.specs.EventCore.declared.event.Ev.TheVariants as ev
use Rattle.kernel_view.specs.SimModel.Values.{on_ok}
use Rattle.kernel_view.specs.SimModel.Waiting.{event_of}
use Rattle.kernel_view.specs.Standings.{next_here}
use Rattle.exec_events.proofs.events.event_at.Goals as goal

pub returns-in-Err : goal.returns-in-Err
returns-in-Err c = λ d i h there. ap (λ r. on_ok r (λ q. Ok (ev.Terminated q))) (c.in-Err.ensures d i h there) ∙ sym (ap (event_of (next_here d c.args.p i) c.args.n c.args.place) c.in-Terminated.is)

pub returns-in-Err-process_at : goal.returns-in-Err-process_at
returns-in-Err-process_at c = λ d i h there. ap (λ r. on_ok r (λ q. Ok (ev.Restarted q))) (c.in-Err-process_at.ensures d i h there) ∙ sym (ap (event_of (next_here d c.args.p i) c.args.n c.args.place) c.in-Reset.is)
