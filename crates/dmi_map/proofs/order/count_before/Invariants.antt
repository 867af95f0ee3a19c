use Rattle.std.proofs.Common.{ℕ, ◌<◌, ◌≤◌, length, get_or}
use Rattle.dmi_map.specs.Ranks.{rank_at, ComesBefore}
use Rattle.dmi_map.proofs.order.count_before.Given as goal

abbrev pub invariant-places : goal.invariant-places
invariant-places l = record {
  within : l.at ≤ length l.order;
  behind : (i : ℕ) → l.at ≤ i → i < length l.order → ComesBefore (rank_at l.ranks) l.k (get_or l.order i 0);
}

abbrev pub decreases-places : goal.decreases-places
decreases-places l = l.at
