use Rattle.std.proofs.Common.{sym, ◌∙◌}
use Rattle.room_map.specs.Shape.{height}
use Rattle.room_map.proofs.Held.{high_there}
use Rattle.room_map.proofs.Stacks.{may_spread_left, may_stack_left, spread_left_side, stack_left_side}
use Rattle.room_map.proofs.turns.lower_left.Goals as goal

pub unreachable-requires : goal.unreachable-requires
unreachable-requires g c = high_there (height c.requires.1) c.requires.0 c.requires.2.sides.left c.requires.3 (sym c.node_at.ensures ∙ c.in-None.is)

pub spread-requires : goal.spread-requires
spread-requires g c = may_spread_left c.requires.2 c.requires.3 (sym c.node_at.ensures ∙ c.in-Some.is) c.if-height.true c.height.ensures c.height-in-Some.ensures

pub stack_right-requires : goal.stack_right-requires
stack_right-requires g c = may_stack_left c.requires.2 (sym c.node_at.ensures ∙ c.in-Some.is)

pub returns-then-height : goal.returns-then-height
returns-then-height g c = λ l r near high. spread_left_side near high (sym c.node_at.ensures ∙ c.in-Some.is) c.if-height.true c.height.ensures c.height-in-Some.ensures c.spread.ensures.under c.spread.ensures.changed

pub returns-else-height : goal.returns-else-height
returns-else-height g c = λ l r near high. stack_left_side near high (sym c.node_at.ensures ∙ c.in-Some.is) c.if-height.false c.height.ensures c.height-in-Some.ensures c.stack_right.ensures.under c.stack_right.ensures.changed
