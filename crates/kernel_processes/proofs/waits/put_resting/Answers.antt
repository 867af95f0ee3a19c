use Rattle.std.proofs.Common.{ap}
use Rattle.kernel_processes.specs.InstanceViews.{seen}
use Rattle.kernel_processes.specs.Moves.{listed_as, sensitive_of}
use Rattle.kernel_processes.specs.Sound.{time_of, is_zero}
use Rattle.kernel_processes.proofs.Changed.{then_changes, told_as, rests_at_once}
use Rattle.kernel_processes.proofs.waits.put_resting.Goals as goal

pub returns : goal.returns
returns g c =
    let s = c.args.s.now in
    let t = c.args.t.now in
    told_as c.args.p _ _ s _ (then_changes c.args.p _ _ s _ _ c.put_time.ensures.changes c.wait_in_lists.ensures)
    (ap (λ o. record (seen s c.args.p) { entry = o; wait = listed_as t.wait (sensitive_of (seen s c.args.p).entry); time = time_of t.deadline; zero = is_zero t.deadline }) (rests_at_once t (seen s c.args.p).entry))
