use Rattle.std.proofs.Common.{length, false, refl, ap, ◌∙◌, subst, arith}
use Rattle.bus_router.specs.DmiMap.Ranks.{rank_at, AreInOrder}
use Rattle.bus_router.proofs.DmiMap.OrderedPlaces.{all_below, one_more, rank_of, order_by_same}
use Rattle.bus_router.specs.Times.{row_at}
use Rattle.result_texts.specs.Lines.{returned_rank}
use Rattle.result_texts.proofs.order.return_order.Goals as goal

pub put_in_order-requires-clause-fresh : goal.put_in_order-requires-clause-fresh
put_in_order-requires-clause-fresh c = all_below (λ k. Unit {0}) c.loop-k.order.items c.loop-k.k c.loop-k.invariant.held

pub loop-k-preserved : goal.loop-k-preserved
loop-k-preserved c = record {
  held = one_more (λ k. Unit {0}) c.loop-k.order.items c.put_in_order.new.order.items c.loop-k.k c.loop-k.invariant.held c.in_ok-put_in_order.ensures.same tt;
  sorted = subst (λ ranks. AreInOrder (rank_at ranks) c.put_in_order.new.order.items) c.as_slice.ensures.value c.in_ok-put_in_order.ensures.sorted;
}

pub returns : goal.returns
returns c =
    let held = c.loop-k.invariant.held in
    let long = ap length c.as_slice-k-end.ensures in
    record {
      all = λ k. (λ inside. let it = (held k).0 inside in let below = it.0 in omega arith, λ there. (held k).1 (omega arith, tt));
      order = order_by_same (rank_at c.in_ok-ranks.ranks.items) (λ k. returned_rank (row_at c.args.rows.now k))
          (λ k. ap (λ ranks. rank_at ranks k) c.in_ok-ranks.ensures ∙ rank_of returned_rank (record { b = 0; a = 0; s = 0; e = 0; r = 0; direct = false }) c.args.rows.now k refl)
          c.loop-k.order.items c.loop-k.invariant.sorted;
    }
