use Rattle.tick_trees.proofs.Powers.{inexact_below}
use Rattle.tick_trees.proofs.fault_laws.inexact_times_are_in_range.Goals as goal

pub returns : goal.returns
returns c = inexact_below
