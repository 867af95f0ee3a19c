use Rattle.model_tree.specs.Views.{expression_of}
use Rattle.tick_trees.specs.Retimed as retimed
use Rattle.tick_trees.specs.Ticks.{ticks_span}
use Rattle.tick_trees.proofs.Each.{one_more}
use Rattle.tick_rules.proofs.expressions.retime_each.Goals as goal

pub loop-e-preserved : goal.loop-e-preserved
loop-e-preserved c =
    one_more expression_of (retimed.expression (ticks_span c.args.r)) c.loop-e.es c.args.es.now c.loop-e.e-index c.e-item.result c.retime.new.e c.loop-e-test.true c.retime.ensures c.loop-e.invariant
