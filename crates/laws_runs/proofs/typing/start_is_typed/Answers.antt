use Rattle.laws_runs.proofs.TypedRuns.{typed-start}
use Rattle.laws_runs.proofs.typing.start_is_typed.Goals as goal

pub returns : goal.returns
returns c = typed-start
