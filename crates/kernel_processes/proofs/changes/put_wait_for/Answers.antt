use Rattle.kernel_processes.proofs.Changed.{put_lists}
use Rattle.kernel_processes.proofs.changes.put_wait_for.Goals as goal

pub returns : goal.returns
returns g c = put_lists c.args.s.now c.args.p _ _ c.wait_any.ensures
