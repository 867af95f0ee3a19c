use Rattle.model_tree.specs.Views.{item_of}
use Rattle.tick_trees.specs.Retimed as retimed
use Rattle.tick_trees.specs.Ticks.{ticks_span}
use Rattle.tick_trees.proofs.Each.{one_more}
use Rattle.tick_rules.proofs.items.retime_items.Goals as goal

pub loop-item-preserved : goal.loop-item-preserved
loop-item-preserved c =
    one_more item_of (retimed.item (ticks_span c.args.r)) c.loop-item.items c.args.items.now c.loop-item.item-index c.item-item.result c.retime_item.new.item c.loop-item-test.true c.retime_item.ensures c.loop-item.invariant
