use Rattle.laws_runs.proofs.GoalRuns.{goals-after}
use Rattle.laws_runs.proofs.goals.runs_have_clean_goals.Goals as goal

pub returns : goal.returns
returns c = goals-after
