use Rattle.laws_reached.proofs.Unwinding.{others-free}
use Rattle.laws_reached.proofs.goals.others_have_no_goal.Goals as goal

pub returns : goal.returns
returns c = others-free
