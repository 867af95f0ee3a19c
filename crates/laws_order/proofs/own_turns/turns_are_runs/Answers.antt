use Rattle.laws_order.proofs.WholeRuns.{is-run}
use Rattle.laws_order.proofs.own_turns.turns_are_runs.Goals as goal

pub returns : goal.returns
returns c = is-run
