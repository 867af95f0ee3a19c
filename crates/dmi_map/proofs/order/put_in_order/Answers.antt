use Rattle.std.proofs.Common.{◌∷◌, sym, subst}
use Rattle.std.specs.List.{insert}
use Rattle.std.specs.List.Sorted.{IsPermutation}
use Rattle.std.proofs.lemmas.List.Sorted.{IsPermutation-insert}
use Rattle.dmi_map.specs.Ranks.{rank_at, AreInOrder}
use Rattle.dmi_map.proofs.Orders.{inserted}
use Rattle.dmi_map.proofs.order.put_in_order.Goals as goal

pub returns-clause-sorted : goal.returns-clause-sorted
returns-clause-sorted c =
    let ranks = rank_at c.args.ranks.now in
    let found = c.count_before-at.ensures in
    let at = c.count_before-at.result in
    let seen = c.as_slice.ensures.value in
    subst (λ xs. AreInOrder ranks xs) (sym c.in_ok-insert.ensures.items)
    (subst (λ xs. AreInOrder ranks (insert xs at c.args.k)) seen
    (inserted ranks c.as_slice.result.now at c.args.k found.within (subst (λ xs. AreInOrder ranks xs) (sym seen) c.requires.sorted) found.before found.behind))

pub returns-clause-same : goal.returns-clause-same
returns-clause-same c =
    subst (λ xs. IsPermutation (c.args.k ∷ c.args.order.now.items) xs) (sym c.in_ok-insert.ensures.items)
    (IsPermutation-insert c.args.order.now.items c.count_before-at.result c.args.k)
