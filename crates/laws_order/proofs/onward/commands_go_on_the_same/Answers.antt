use Rattle.laws_order.proofs.SameSteps.{command-same}
use Rattle.laws_order.proofs.onward.commands_go_on_the_same.Goals as goal

pub returns : goal.returns
returns c = command-same
