use Rattle.laws_runs.proofs.RunSteps.{taking-moves}
use Rattle.laws_runs.proofs.steps.takings_are_moves.Goals as goal

pub returns : goal.returns
returns c = taking-moves
