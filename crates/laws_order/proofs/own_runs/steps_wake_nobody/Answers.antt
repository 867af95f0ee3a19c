use Rattle.laws_order.proofs.WholeRuns.{wakes-nobody}
use Rattle.laws_order.proofs.own_runs.steps_wake_nobody.Goals as goal

pub returns : goal.returns
returns c = wakes-nobody
