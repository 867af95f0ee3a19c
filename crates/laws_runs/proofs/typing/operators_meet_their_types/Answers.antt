use Rattle.laws_runs.proofs.TypedRuns.{meets-runs, next-runs}
use Rattle.laws_runs.proofs.typing.operators_meet_their_types.Goals as goal

pub returns : goal.returns
returns c = record {
  next = next-runs;
  operands = meets-runs;
}
