use Rattle.kernel_processes.proofs.Changed.{ended_time}
use Rattle.kernel_processes.proofs.moves.end_time.Goals as goal

pub returns : goal.returns
returns g c = ended_time c.args.s.now c.args.p _ _ c.clear.ensures c.remove.ensures.left
