use Rattle.std.proofs.Common.{arith}
use Rattle.room_map.specs.Shape.{Fork}
use Rattle.room_map.proofs.Held.{changed_both, changed_more, last_two, then_first}
use Rattle.room_map.proofs.turns.stack_right.Goals as goal

pub close-right-requires : goal.close-right-requires
close-right-requires g c = (c.requires.1, c.requires.2, last_two c.requires.3)

pub close-requires : goal.close-requires
close-requires g c =
    let s = c.requires.3 in
    (c.requires.0, Fork c.args.y.place c.requires.1 c.args.y.key c.args.y.value c.requires.2, then_first s c.close-right.ensures.changed (c.close-right.ensures.under c.requires.1 c.requires.2 (last_two s)))

pub returns-clause-under : goal.returns-clause-under
returns-clause-under g c = λ p q r s.
    c.close.ensures.under p (Fork c.args.y.place q c.args.y.key c.args.y.value r) (then_first s c.close-right.ensures.changed (c.close-right.ensures.under q r (last_two s)))

pub returns-clause-changed : goal.returns-clause-changed
returns-clause-changed g c = changed_more (changed_both c.close-right.ensures.changed c.close.ensures.changed) (λ k. omega arith)
