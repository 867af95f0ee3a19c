use Rattle.model_tree.specs.Views.{item_of}
use Rattle.tick_trees.specs.Retimed as retimed
use Rattle.tick_trees.specs.Ticks.{ticks_span}
use Rattle.tick_trees.proofs.Each.{Changed}
use Rattle.tick_rules.proofs.items.retime_items.Given as goal

abbrev pub invariant-loop-item : goal.invariant-loop-item
invariant-loop-item l = Changed item_of (retimed.item (ticks_span l.fn.r)) l.items l.fn.items l.item-index
