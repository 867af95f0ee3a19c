use Rattle.laws_order.proofs.Wires.{resolution-permuted}
use Rattle.laws_order.proofs.drivers.drivers_resolve_in_any_order.Goals as goal

pub returns : goal.returns
returns c = resolution-permuted
