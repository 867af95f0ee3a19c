use Rattle.kernel_processes.proofs.Changed.{muted_lists}
use Rattle.kernel_processes.proofs.changes.mute.Goals as goal

pub returns : goal.returns
returns g c = muted_lists c.args.s.now c.args.p _ c.args.on c.mute.ensures
