use Rattle.flat_design.specs.Code.{event_term}
use Rattle.kernel_view.specs.SimModel.Residual.{settle}
use Rattle.kernel_view.specs.SimModel.Configuration.{Trigger, arena}
use Rattle.kernel_view.specs.SimModel.Statements.{settled_in}
use Rattle.kernel_view.specs.SimModel.Storing.{passes}
use Rattle.kernel_view.specs.SimModel.Waits.{waits}
use Rattle.kernel_view.specs.Standings.{next_here}
use Rattle.exec_events.proofs.Doing.{one_waits, one_refused, one_at_fault}
use Rattle.exec_events.proofs.statements.wait_for_one.Goals as goal

pub returns-in-Ok-wait_for_event-clause-does : goal.returns-in-Ok-wait_for_event-clause-does
returns-in-Ok-wait_for_event-clause-does c = λ d i h there.
    one_waits (next_here d c.args.p i) (event_term c.args.event.now) c.wait_for_event.new.k d (λ (t : Trigger). waits (passes (settled_in d c.args.p i.residual) c.args.p (settle (arena d) i.residual)) c.args.p t.wait t.deadline)
    c.in-Ok.e (c.in-Ok.ensures d i h there) (c.in-Ok-wait_for_event.ensures.steps d i h there)

pub returns-in-Err-clause-does : goal.returns-in-Err-clause-does
returns-in-Err-clause-does c = λ d i h there.
    one_at_fault (next_here d c.args.p i) (event_term c.args.event.now) c.args.k.now d (λ (t : Trigger). waits (passes (settled_in d c.args.p i.residual) c.args.p (settle (arena d) i.residual)) c.args.p t.wait t.deadline)
    c.in-Err.fault (c.in-Err.ensures d i h there) h

pub returns-in-Err-wait_for_event-clause-does : goal.returns-in-Err-wait_for_event-clause-does
returns-in-Err-wait_for_event-clause-does c = λ d i h there.
    one_refused (next_here d c.args.p i) (event_term c.args.event.now) c.wait_for_event.new.k d (λ (t : Trigger). waits (passes (settled_in d c.args.p i.residual) c.args.p (settle (arena d) i.residual)) c.args.p t.wait t.deadline)
    c.in-Ok.e (c.in-Ok.ensures d i h there) (c.in-Err-wait_for_event.ensures.stays d h)
