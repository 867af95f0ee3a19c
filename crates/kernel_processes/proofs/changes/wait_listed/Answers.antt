use Rattle.kernel_processes.proofs.Changed.{then_changes}
use Rattle.kernel_processes.proofs.changes.wait_listed.Goals as goal

pub returns : goal.returns
returns g c = then_changes c.args.p _ _ c.args.s.now _ _ c.put_wait.ensures c.mark_wait.ensures
