use Rattle.dmi_map.proofs.OneOrder.{same_order}
use Rattle.dmi_map.proofs.order_laws.one_order.Goals as goal

pub returns : goal.returns
returns c = λ ranks places others one other same. same_order ranks places others one other same
