use Rattle.laws_order.proofs.Driving.{driven-same}
use Rattle.laws_order.proofs.same_drivers.drivers_go_on_the_same.Goals as goal

pub returns : goal.returns
returns c = driven-same
