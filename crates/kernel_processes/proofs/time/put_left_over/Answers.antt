use Rattle.std.proofs.Common.{false, option_map, ap}
use Rattle.kernel_processes.specs.InstanceViews.{seen}
use Rattle.kernel_processes.specs.Times.{over_entry}
use Rattle.kernel_processes.proofs.Changed.{then_changes, told_as, ended_zero}
use Rattle.kernel_processes.proofs.time.put_left_over.Goals as goal

pub returns : goal.returns
returns g c =
    let s = c.args.s.now in
    told_as c.args.p _ _ s _ (then_changes c.args.p _ _ s _ _ (ended_zero s c.args.p _ c.remove.ensures.left) c.mark_over.ensures)
    (ap (λ o. record (seen s c.args.p) { entry = option_map over_entry (seen s c.args.p).entry; time = o; zero = false }) c.requires)
