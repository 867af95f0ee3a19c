use Rattle.laws_order.proofs.WholeRuns.{turns}
use Rattle.laws_order.proofs.own_turns.runs_take_turns.Goals as goal

pub returns : goal.returns
returns c = turns
