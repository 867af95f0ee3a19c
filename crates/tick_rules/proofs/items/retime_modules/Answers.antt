use Rattle.model_tree.specs.Views.{module_of}
use Rattle.tick_trees.specs.Retimed as retimed
use Rattle.tick_trees.specs.Ticks.{ticks_span}
use Rattle.tick_trees.proofs.Each.{one_more}
use Rattle.tick_rules.proofs.items.retime_modules.Goals as goal

pub loop-module-preserved : goal.loop-module-preserved
loop-module-preserved c =
    one_more module_of (retimed.module_ (ticks_span c.args.r)) c.loop-module.modules c.args.modules.now c.loop-module.module-index c.module-item.result c.retime_module.new.module c.loop-module-test.true c.retime_module.ensures c.loop-module.invariant
