use Rattle.laws_order.proofs.WholeRuns.{ends-same}
use Rattle.laws_order.proofs.own_runs.ends_change_nothing.Goals as goal

pub returns : goal.returns
returns c = ends-same
