use Rattle.laws_runs.proofs.TypedRuns.{typed-runs}
use Rattle.laws_runs.proofs.typing.runs_are_typed.Goals as goal

pub returns : goal.returns
returns c = typed-runs
