use Rattle.laws_runs.proofs.RunSteps.{step-moves}
use Rattle.laws_runs.proofs.steps.steps_are_moves.Goals as goal

pub returns : goal.returns
returns c = step-moves
