use Rattle.laws_order.proofs.SameSteps.{taking-same}
use Rattle.laws_order.proofs.onward.takings_go_on_the_same.Goals as goal

pub returns : goal.returns
returns c = λ now other same p. taking-same now other p same
