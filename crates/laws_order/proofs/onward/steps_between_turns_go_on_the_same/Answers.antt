use Rattle.laws_order.proofs.SameSteps.{step-same}
use Rattle.laws_order.proofs.onward.steps_between_turns_go_on_the_same.Goals as goal

pub returns : goal.returns
returns c = step-same c.drivers_resolve_in_any_order.ensures
