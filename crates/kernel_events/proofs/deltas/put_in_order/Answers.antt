use Rattle.std.proofs.Common.{ℕ, List, subst}
use Rattle.std.specs.List.Sorted.{IsNonDecreasing}
use Rattle.kernel_events.proofs.deltas.put_in_order.Goals as goal

pub returns-then-is_in_order-clause-sorted : goal.returns-then-is_in_order-clause-sorted
returns-then-is_in_order-clause-sorted c = subst (λ (xs : List ℕ). IsNonDecreasing xs) c.as_slice.ensures.value (c.is_in_order.ensures c.if-is_in_order.true)
