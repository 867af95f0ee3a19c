use Rattle.room_map.specs.Shape.{Fork}
use Rattle.room_map.proofs.Held.{changed_both, first_two, then_third}
use Rattle.room_map.proofs.turns.stack_left.Goals as goal

pub close-left-requires : goal.close-left-requires
close-left-requires g c = (c.requires.0, c.requires.1, first_two c.requires.3)

pub close-requires : goal.close-requires
close-requires g c =
    let s = c.requires.3 in
    (Fork c.args.x.place c.requires.0 c.args.x.key c.args.x.value c.requires.1, c.requires.2, then_third s c.close-left.ensures.changed (c.close-left.ensures.under c.requires.0 c.requires.1 (first_two s)))

pub returns-clause-under : goal.returns-clause-under
returns-clause-under g c = λ p q r s.
    c.close.ensures.under (Fork c.args.x.place p c.args.x.key c.args.x.value q) r (then_third s c.close-left.ensures.changed (c.close-left.ensures.under p q (first_two s)))

pub returns-clause-changed : goal.returns-clause-changed
returns-clause-changed g c = changed_both c.close-left.ensures.changed c.close.ensures.changed
