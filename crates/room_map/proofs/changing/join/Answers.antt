use Rattle.std.proofs.Common.{sym, ◌∙◌}
use Rattle.room_map.proofs.Held.{bare, unchanged}
use Rattle.room_map.proofs.Leavings.{join_split, join_bare}
use Rattle.room_map.proofs.Sides.{near_join, join_both}
use Rattle.room_map.proofs.changing.join.Goals as goal

pub split_first-first-requires : goal.split_first-first-requires
split_first-first-requires g c = (c.requires.1, join_split c.requires.2 (sym c.node_at.ensures ∙ c.in-Some.is))

pub balance-requires : goal.balance-requires
balance-requires g c = near_join c.requires.2 (sym c.node_at.ensures ∙ c.in-Some.is) c.split_first-first.ensures

pub returns-in-None : goal.returns-in-None
returns-in-None g c = λ l r s. (l, s.left, join_bare s (bare r s.right (sym c.node_at.ensures ∙ c.in-None.is)), unchanged)

pub returns-in-Some : goal.returns-in-Some
returns-in-Some g c = λ l r s. join_both s (sym c.node_at.ensures ∙ c.in-Some.is) c.split_first-first.ensures c.balance.ensures
