use Rattle.laws_order.proofs.WholeRuns.{leaves-ready}
use Rattle.laws_order.proofs.own_turns.turns_wake_nobody.Goals as goal

pub returns : goal.returns
returns c = leaves-ready
