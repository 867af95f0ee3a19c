use Rattle.std.proofs.Common.{◌≡◌, drop, map}
use Rattle.std.specs.List.{flat_map}
use Rattle.model_tree.specs.Views.{expression_of}
use Rattle.tick_trees.specs.Times.{in_expression}
use Rattle.tick_trees.specs.Unfit.{first, unfit_in}
use Rattle.tick_trees.proofs.expressions.in_each.Given as goal

-- what is found, if anything, is in what is left
abbrev pub invariant-loop-e : goal.invariant-loop-e
invariant-loop-e l = first (unfit_in l.fn.r) (flat_map in_expression (map expression_of l.fn.es)) ≡ first (unfit_in l.fn.r) (flat_map in_expression (map expression_of (drop l.e-index l.fn.es)))
