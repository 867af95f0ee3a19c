use Rattle.std.proofs.Common.{arith}
use Rattle.room_map.proofs.Stacks.{left_low, right_low, left_by_two, right_by_two, close_near}
use Rattle.room_map.proofs.turns.balance.Goals as goal

pub overflow_add-r : goal.overflow_add-r
overflow_add-r g c = omega (arith, right_low c.requires.2.sides c.height-r.ensures)

pub overflow_add-l : goal.overflow_add-l
overflow_add-l g c = omega (arith, left_low c.requires.2.sides c.height-l.ensures)

pub lower_left-requires : goal.lower_left-requires
lower_left-requires g c = (c.requires.0, c.requires.1, c.requires.2, left_by_two c.requires.2 c.height-l.ensures c.height-r.ensures c.if-l-r.true)

pub lower_right-requires : goal.lower_right-requires
lower_right-requires g c = (c.requires.0, c.requires.1, c.requires.2, right_by_two c.requires.2 c.height-l.ensures c.height-r.ensures c.if-r-l.true)

pub close-requires : goal.close-requires
close-requires g c = (c.requires.0, c.requires.1, c.requires.2.sides)

pub returns-then-l-r : goal.returns-then-l-r
returns-then-l-r g c = λ l r near. c.lower_left.ensures l r near (left_by_two near c.height-l.ensures c.height-r.ensures c.if-l-r.true)

pub returns-then-r-l : goal.returns-then-r-l
returns-then-r-l g c = λ l r near. c.lower_right.ensures l r near (right_by_two near c.height-l.ensures c.height-r.ensures c.if-r-l.true)

pub returns-else-r-l : goal.returns-else-r-l
returns-else-r-l g c = λ l r near. close_near near c.height-l.ensures c.height-r.ensures c.if-l-r.false c.if-r-l.false c.close.ensures.under c.close.ensures.changed
