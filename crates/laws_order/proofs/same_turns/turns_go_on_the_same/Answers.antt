use Rattle.laws_order.proofs.SameTurning.{turn-same}
use Rattle.laws_order.proofs.same_turns.turns_go_on_the_same.Goals as goal

pub returns : goal.returns
returns c = turn-same c.turns_are_done_alike.ensures c.what_is_left_alike_is_seen_alike.ensures c.turns_leave_alike.ensures
