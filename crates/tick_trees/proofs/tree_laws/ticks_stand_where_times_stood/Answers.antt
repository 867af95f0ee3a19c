use Rattle.tick_trees.specs.Ticks.{ticks_span}
use Rattle.tick_trees.proofs.Times.{of_model}
use Rattle.tick_trees.proofs.tree_laws.ticks_stand_where_times_stood.Goals as goal

pub returns : goal.returns
returns c = λ r m. of_model (ticks_span r) m
