use Rattle.kernel_processes.proofs.Changed.{then_changes}
use Rattle.kernel_processes.proofs.turns.free.Goals as goal

pub returns : goal.returns
returns g c = then_changes c.args.p _ _ c.args.s.now _ _ (then_changes c.args.p _ _ c.args.s.now _ _ c.leave_lists.ensures c.end_time.ensures) c.mark_free.ensures
