use Rattle.laws_order.proofs.SameTurning.{turns-either}
use Rattle.laws_order.proofs.same_turns.turns_come_to_the_same_in_either_order.Goals as goal

pub returns : goal.returns
returns c = turns-either c.turns_go_in_either_order.ensures c.turns_do_not_depend_on_others.ensures
