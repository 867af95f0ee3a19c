use Rattle.laws_runs.proofs.SnapshotSteps.{steps-add}
use Rattle.laws_runs.proofs.snapshots.steps_add_snapshots.Goals as goal

pub returns : goal.returns
returns c = steps-add
