use Rattle.std.proofs.Common.{◌≤◌, vec_capacity, sym, ◌∙◌, subst, arith}
use Rattle.kernel_events.specs.Layout.{IsTied}
use Rattle.kernel_events.proofs.Changed.{tied_first}
use Rattle.kernel_events.proofs.EventBoard.new.Goals as goal

pub invariant_of-result : goal.invariant_of-result
invariant_of-result c =
    let places : c.args.n ≤ vec_capacity c.in_ok-deltas.deltas = let capacity = c.in_ok-deltas.ensures.capacity in omega (arith, capacity) in
    subst (λ es. IsTied es c.in_ok-deltas.deltas c.reserve.new.self c.args.n) (sym c.in_ok-events.ensures)
    (tied_first c.args.n c.in_ok-deltas.deltas c.reserve.new.self c.in_ok-deltas.ensures.items places (c.in_ok-reserve.ensures.kept ∙ c.new-times.ensures) c.in_ok-reserve.ensures.ok)
