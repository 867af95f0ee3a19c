use Rattle.std.proofs.Common.{List, ◌+◌, ◌-◌, ◌≤◌, length}
use Rattle.order_free.specs.Spreading as spec
use Rattle.order_free.specs.declared.roots.Root.{Root}
use Rattle.order_free.proofs.spreading.follow.Given as goal

abbrev pub invariant-loop-i : goal.invariant-loop-i
invariant-loop-i l = record {
  within : l.i ≤ length l.listing.items;
  under_way : (roots : List Root) → spec.IsUnderWay l.parts roots 0 (l.fn.labels.items, l.fn.listing.items) → spec.IsUnderWay l.parts roots l.i (l.labels.items, l.listing.items);
}

abbrev pub decreases-loop-i : goal.decreases-loop-i
decreases-loop-i l = (spec.all_rises l.labels.items + length l.listing.items) - l.i
