use Rattle.std.proofs.Common.{sym, ◌∙◌}
use Rattle.room_map.specs.Shape.{height}
use Rattle.room_map.proofs.Held.{high_there}
use Rattle.room_map.proofs.Stacks.{may_spread_right, may_stack_right, spread_right_side, stack_right_side}
use Rattle.room_map.proofs.turns.lower_right.Goals as goal

pub unreachable-requires : goal.unreachable-requires
unreachable-requires g c = high_there (height c.requires.0) c.requires.1 c.requires.2.sides.right c.requires.3 (sym c.node_at.ensures ∙ c.in-None.is)

pub spread-requires : goal.spread-requires
spread-requires g c = may_spread_right c.requires.2 c.requires.3 (sym c.node_at.ensures ∙ c.in-Some.is) c.if-height.true c.height-in-Some.ensures c.height.ensures

pub stack_left-requires : goal.stack_left-requires
stack_left-requires g c = may_stack_right c.requires.2 (sym c.node_at.ensures ∙ c.in-Some.is)

pub returns-then-height : goal.returns-then-height
returns-then-height g c = λ l r near high. spread_right_side near high (sym c.node_at.ensures ∙ c.in-Some.is) c.if-height.true c.height-in-Some.ensures c.height.ensures c.spread.ensures.under c.spread.ensures.changed

pub returns-else-height : goal.returns-else-height
returns-else-height g c = λ l r near high. stack_right_side near high (sym c.node_at.ensures ∙ c.in-Some.is) c.if-height.false c.height-in-Some.ensures c.height.ensures c.stack_left.ensures.under c.stack_left.ensures.changed
