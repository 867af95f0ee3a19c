use Rattle.std.proofs.Common.{◌≡◌, Some}
use Rattle.traffic_file.specs.DmiMap.Ranks.{rank_at, AreInOrder}
use Rattle.traffic_file.specs.Traffic.{home_of}
use Rattle.traffic_file.proofs.DmiMap.OrderedPlaces.{HoldsBelow}
use Rattle.bus_router.proofs.homes.order_at.Given as goal

abbrev pub invariant-loop-k : goal.invariant-loop-k
invariant-loop-k l = record {
  held : HoldsBelow (λ k. home_of l.bus k ≡ Some l.home) l.order.items l.k;
  sorted : AreInOrder (rank_at l.ranks) l.order.items;
}
