use Rattle.laws_order.proofs.WholeRuns.{stays-empty}
use Rattle.laws_order.proofs.own_runs.the_stack_stays_empty_between_turns.Goals as goal

pub returns : goal.returns
returns c = stays-empty
