use Rattle.laws_order.proofs.Reordered.{in-any-order}
use Rattle.laws_order.proofs.own_orders.turns_of_a_phase_go_in_any_order.Goals as goal

pub returns : goal.returns
returns c = in-any-order c.turns_go_in_either_order.ensures c.turns_leave_alike.ensures
