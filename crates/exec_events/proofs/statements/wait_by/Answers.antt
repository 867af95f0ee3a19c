use Rattle.flat_design.specs.Code.{await_term}
use Rattle.kernel_view.specs.SimModel.Residual.{settle}
use Rattle.kernel_view.specs.SimModel.Configuration.{Trigger, arena}
use Rattle.kernel_view.specs.SimModel.Statements.{settled_in}
use Rattle.kernel_view.specs.SimModel.Storing.{passes}
use Rattle.kernel_view.specs.SimModel.Waiting.{awaited}
use Rattle.kernel_view.specs.SimModel.Waits.{waits}
use Rattle.kernel_view.specs.KernelProcesses.InstanceViews.{deadline_of}
use Rattle.kernel_view.specs.KernelProcesses.Moved.{wait_as}
use Rattle.kernel_view.specs.Standings.{next_here}
use Rattle.exec_events.proofs.Doing.{goes_on, is_refused, is_at_fault}
use Rattle.exec_events.proofs.statements.wait_by.Goals as goal

pub returns-in-Ok-wait_so-clause-does : goal.returns-in-Ok-wait_so-clause-does
returns-in-Ok-wait_so-clause-does c = λ d i h there.
    goes_on c.wait_so.new.k d (λ (t : Trigger). waits (passes (settled_in d c.args.p i.residual) c.args.p (settle (arena d) i.residual)) c.args.p t.wait t.deadline)
    (record { wait = wait_as c.in-Ok-wait_of.wait; deadline = deadline_of c.in-Ok.deadline }) (awaited (next_here d c.args.p i) (await_term c.args.how.now))
    (c.in-Ok.ensures d i h there) (c.in-Ok-wait_of.ensures d i h there) (c.in-Ok-wait_so.ensures.steps d i h there)

pub returns-in-Err-clause-does : goal.returns-in-Err-clause-does
returns-in-Err-clause-does c = λ d i h there.
    is_at_fault c.args.k.now d (λ (t : Trigger). waits (passes (settled_in d c.args.p i.residual) c.args.p (settle (arena d) i.residual)) c.args.p t.wait t.deadline)
    c.in-Err.fault (awaited (next_here d c.args.p i) (await_term c.args.how.now)) (c.in-Err.ensures d i h there) h

pub returns-in-Err-wait_of-clause-does : goal.returns-in-Err-wait_of-clause-does
returns-in-Err-wait_of-clause-does c = λ d i h there.
    is_refused c.args.k.now d (λ (t : Trigger). waits (passes (settled_in d c.args.p i.residual) c.args.p (settle (arena d) i.residual)) c.args.p t.wait t.deadline)
    (deadline_of c.in-Ok.deadline) (awaited (next_here d c.args.p i) (await_term c.args.how.now)) (c.in-Ok.ensures d i h there) h
