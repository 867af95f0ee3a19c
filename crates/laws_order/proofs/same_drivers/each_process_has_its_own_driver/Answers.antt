use Rattle.laws_order.proofs.Driving.{own-driven}
use Rattle.laws_order.proofs.Relating.{own-undriven}
use Rattle.laws_order.proofs.same_drivers.each_process_has_its_own_driver.Goals as goal

pub returns : goal.returns
returns c = record { first = own-undriven; write = own-driven; update = λ r own. record { once = own.once; many = own.many } }
