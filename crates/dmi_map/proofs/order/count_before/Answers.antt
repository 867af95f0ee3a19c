use Rattle.std.proofs.Common.{◌-◌, sym, ◌∙◌, arith}
use Rattle.dmi_map.specs.Ranks.{rank_at}
use Rattle.dmi_map.proofs.Behind.{before_all}
use Rattle.dmi_map.proofs.order.count_before.Goals as goal

pub returns-else-is_before-clause-before : goal.returns-else-is_before-clause-before
returns-else-is_before-clause-before c = λ i below.
    let positive = c.places-test.true in
    let within = c.places.invariant.within in
    before_all (rank_at c.args.ranks.now) c.args.order.now (c.places.at - 1) c.args.k c.requires.sorted (omega arith)
    (c.requires.fresh (c.places.at - 1) (omega arith)) (sym c.is_before.ensures ∙ c.if-is_before.false) i (omega arith)
