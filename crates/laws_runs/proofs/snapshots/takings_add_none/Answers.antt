use Rattle.laws_runs.proofs.SnapshotSteps.{takings-stay}
use Rattle.laws_runs.proofs.snapshots.takings_add_none.Goals as goal

pub returns-clause-snapshots : goal.returns-clause-snapshots
returns-clause-snapshots c = λ d e p to. (takings-stay d e p to).2

pub returns-clause-now : goal.returns-clause-now
returns-clause-now c = λ d e p to. (takings-stay d e p to).1
