use Rattle.model_tree.specs.Views.{expression_of}
use Rattle.tick_trees.specs.Retimed as retimed
use Rattle.tick_trees.specs.Ticks.{ticks_span}
use Rattle.tick_trees.proofs.Each.{Changed}
use Rattle.tick_rules.proofs.expressions.retime_each.Given as goal

abbrev pub invariant-loop-e : goal.invariant-loop-e
invariant-loop-e l = Changed expression_of (retimed.expression (ticks_span l.fn.r)) l.es l.fn.es l.e-index
