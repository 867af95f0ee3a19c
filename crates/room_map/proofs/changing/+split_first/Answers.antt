use Rattle.std.proofs.Common.{rules, sym, ◌∙◌}
use Rattle.room_map.proofs.Held.{bare, forked, below_left, unchanged}
use Rattle.room_map.proofs.Leavings.{split_here}
use Rattle.room_map.proofs.Sides.{may_split, near_split, split_below}
use Rattle.room_map.proofs.changing.+split_first.Goals as goal

pub split_first-first-requires : goal.split_first-first-requires
split_first-first-requires g t c κs within =
    let lower = below_left c.requires.0 c.requires.1.under c.requires.1.there in
    (search rules, (within.0, (within.1, may_split c.requires.1 (sym c.node_at.ensures ∙ c.in-Some.is))))

pub balance-rest-requires : goal.balance-rest-requires
balance-rest-requires g t c = near_split c.requires.1 (sym c.node_at.ensures ∙ c.in-Some.is) c.split_first-first.ensures

pub returns-in-None : goal.returns-in-None
returns-in-None g t c = λ t s.
    let o = forked t s.under s.there in
    let none = bare o.l o.node.left (sym c.node_at.ensures ∙ c.in-None.is) in
    (o.r, o.node.right, split_here s o none, unchanged)

pub returns-in-Some : goal.returns-in-Some
returns-in-Some g t c = λ t s. split_below s (sym c.node_at.ensures ∙ c.in-Some.is) c.split_first-first.ensures c.balance-rest.ensures
