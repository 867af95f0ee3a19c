use Rattle.laws_order.proofs.Reordered.{phases-leave-alike}
use Rattle.laws_order.proofs.own_orders.evaluation_phases_leave_alike.Goals as goal

pub returns : goal.returns
returns c = phases-leave-alike c.turns_go_in_either_order.ensures c.turns_leave_alike.ensures
