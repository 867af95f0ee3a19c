use Rattle.model_tree.specs.Views.{module_of}
use Rattle.tick_trees.specs.Retimed as retimed
use Rattle.tick_trees.specs.Ticks.{ticks_span}
use Rattle.tick_trees.proofs.Each.{Changed}
use Rattle.tick_rules.proofs.items.retime_modules.Given as goal

abbrev pub invariant-loop-module : goal.invariant-loop-module
invariant-loop-module l = Changed module_of (retimed.module_ (ticks_span l.fn.r)) l.modules l.fn.modules l.module-index
