use Rattle.kernel_processes.proofs.Changed.{left_lists}
use Rattle.kernel_processes.proofs.changes.leave_lists.Goals as goal

pub returns : goal.returns
returns g c = left_lists c.args.s.now c.args.p _ c.leave.ensures
