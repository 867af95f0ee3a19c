use Rattle.kernel_processes.proofs.Changed.{then_changes}
use Rattle.kernel_processes.proofs.time.put_over.Goals as goal

pub returns : goal.returns
returns g c = then_changes c.args.p _ _ c.args.s.now _ _ c.end_time.ensures c.mark_over.ensures
