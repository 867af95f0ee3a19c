use Rattle.kernel_phases.proofs.Chosen.{alike}
use Rattle.kernel_phases.proofs.laws.picked_in_any_order.Goals as goal

pub returns : goal.returns
returns c = alike
