use Rattle.laws_order.proofs.Driving.{driven-either}
use Rattle.laws_order.proofs.same_drivers.drivers_go_in_either_order.Goals as goal

pub returns : goal.returns
returns c = driven-either
