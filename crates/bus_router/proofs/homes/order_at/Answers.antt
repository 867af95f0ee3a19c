use Rattle.std.proofs.Common.{◌≡◌, ◌+◌, ◌<◌, Some, length, refl, sym, ap, ◌∙◌, subst, arith, true≢false, false}
use Rattle.std.specs.Prelude.{option_map}
use Rattle.traffic_file.specs.DmiMap.Ranks.{rank_at, AreInOrder}
use Rattle.traffic_file.specs.DmiMap.declared.ranges.TargetRange.{TargetRange}
use Rattle.traffic_file.specs.Traffic.{home_of}
use Rattle.bus_router.specs.Times.{row_at}
use Rattle.bus_router.specs.Answers.{served_rank}
use Rattle.traffic_file.proofs.DmiMap.OrderedPlaces.{HoldsBelow, all_below, one_more, none_more, rank_of, order_by_same}
use Rattle.bus_router.proofs.homes.order_at.Goals as goal
use Rattle.bus_router.proofs.homes.order_at.Goals.{then-is_home+in_ok-put_in_order, else-is_home}

pub put_in_order-requires-clause-fresh : goal.put_in_order-requires-clause-fresh
put_in_order-requires-clause-fresh c =
    all_below (λ k. home_of c.args.bus.now k ≡ Some c.args.home) c.loop-k.order.items c.loop-k.k c.loop-k.invariant.held

pub loop-k-preserved : goal.loop-k-preserved
loop-k-preserved c =
    let bus = c.args.bus.now in
    let below : c.loop-k.k < length bus.lines = omega arith in
    let home_is = ap (λ o. option_map (λ (r : TargetRange). r.target) o) (c.requires.homes.each c.loop-k.k below) in
    elim c.if-is_home.branch [
      | then-is_home+in_ok-put_in_order w ↦
          let here : home_of bus c.loop-k.k ≡ Some c.args.home = sym home_is ∙ c.is_home.ensures.0 w.if-is_home.true in
          let same = ap (λ (v : _). v.items) w.order-is in
          record {
            held = subst (λ ks. HoldsBelow (λ k. home_of bus k ≡ Some c.args.home) ks (c.loop-k.k + 1)) (sym same)
                (one_more (λ k. home_of bus k ≡ Some c.args.home) c.loop-k.order.items w.put_in_order.new.order.items c.loop-k.k c.loop-k.invariant.held w.in_ok-put_in_order.ensures.same here);
            sorted = subst (λ ks. AreInOrder (rank_at c.args.ranks.now) ks) (sym same) w.in_ok-put_in_order.ensures.sorted;
          }
      | else-is_home w ↦
          let same = ap (λ (v : _). v.items) w.order-is in
          record {
            held = subst (λ ks. HoldsBelow (λ k. home_of bus k ≡ Some c.args.home) ks (c.loop-k.k + 1)) (sym same)
                (none_more (λ k. home_of bus k ≡ Some c.args.home) c.loop-k.order.items c.loop-k.k c.loop-k.invariant.held
                (λ is. true≢false (sym (c.is_home.ensures.1 (home_is ∙ is)) ∙ w.if-is_home.false)));
            sorted = subst (λ ks. AreInOrder (rank_at c.args.ranks.now) ks) (sym same) c.loop-k.invariant.sorted;
          }
    ]

pub returns : goal.returns
returns c =
    let many = c.requires.homes.many in
    let held = c.loop-k.invariant.held in
    record {
      all = λ k. (
        λ inside. record { there = (let it = (held k).0 inside in omega arith); home_is = ((held k).0 inside).1 },
        λ of. (held k).1 ((let there = of.there in omega arith), of.home_is),
      );
      order = order_by_same (rank_at c.args.ranks.now) (λ k. served_rank (row_at c.args.rows.now k))
          (λ k. ap (λ ranks. rank_at ranks k) c.requires.ranked ∙ rank_of served_rank (record { b = 0; a = 0; s = 0; e = 0; r = 0; direct = false }) c.args.rows.now k refl)
          c.loop-k.order.items c.loop-k.invariant.sorted;
    }
