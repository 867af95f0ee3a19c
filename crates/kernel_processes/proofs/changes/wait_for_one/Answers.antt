use Rattle.kernel_processes.proofs.Changed.{then_changes}
use Rattle.kernel_processes.proofs.changes.wait_for_one.Goals as goal

pub returns : goal.returns
returns g c = then_changes c.args.p _ _ c.args.s.now _ _ c.put_wait_for.ensures c.mark_any.ensures
