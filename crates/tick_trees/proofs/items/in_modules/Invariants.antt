use Rattle.std.proofs.Common.{◌≡◌, drop, map}
use Rattle.std.specs.List.{flat_map}
use Rattle.model_tree.specs.Views.{module_of}
use Rattle.tick_trees.specs.Times.{in_module}
use Rattle.tick_trees.specs.Unfit.{first, unfit_in}
use Rattle.tick_trees.proofs.items.in_modules.Given as goal

-- what is found, if anything, is in what is left
abbrev pub invariant-loop-module : goal.invariant-loop-module
invariant-loop-module l = first (unfit_in l.fn.r) (flat_map in_module (map module_of l.fn.modules)) ≡ first (unfit_in l.fn.r) (flat_map in_module (map module_of (drop l.module-index l.fn.modules)))
