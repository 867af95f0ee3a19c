use Rattle.order_free.specs.Free.{Uses}
use Rattle.laws_order.proofs.Undriven.{undriven-all}
use Rattle.laws_order.proofs.Ruled.{free-apart}
use Rattle.laws_order.proofs.acts.many_acts_leave_all_but_drivers_alike.Goals as goal

pub returns : goal.returns
returns c = λ d free p q differ. undriven-all (Uses d p) (Uses d q) (free-apart d free p q differ) p q
