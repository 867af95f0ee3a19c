use Rattle.bus_router.specs.DmiMap.Ranks.{rank_at, AreInOrder}
use Rattle.bus_router.proofs.DmiMap.OrderedPlaces.{HoldsBelow}
use Rattle.result_texts.proofs.order.return_order.Given as goal

abbrev pub invariant-loop-k : goal.invariant-loop-k
invariant-loop-k l = record {
  held : HoldsBelow (λ k. Unit {0}) l.order.items l.k;
  sorted : AreInOrder (rank_at l.ranks.items) l.order.items;
}
