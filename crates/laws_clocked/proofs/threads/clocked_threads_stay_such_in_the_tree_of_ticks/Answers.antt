use Rattle.tick_trees.specs.Ticks.{ticks_span}
use Rattle.laws_clocked.proofs.Retiming.{clocked_still}
use Rattle.laws_clocked.proofs.threads.clocked_threads_stay_such_in_the_tree_of_ticks.Goals as goal

pub returns : goal.returns
returns c r p block ts clocked = clocked_still (ticks_span r) p block ts clocked
