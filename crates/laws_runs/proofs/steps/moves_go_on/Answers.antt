use Rattle.laws_runs.proofs.MovesKeep.{moves-then}
use Rattle.laws_runs.proofs.steps.moves_go_on.Goals as goal

pub returns : goal.returns
returns c = moves-then
