use Rattle.kernel_processes.proofs.Changed.{still_untimed}
use Rattle.kernel_processes.proofs.moves.end_time_if.Goals as goal

pub returns-else-timed : goal.returns-else-timed
returns-else-timed g c = still_untimed c.args.s.now c.args.p (c.requires c.if-timed.false)
