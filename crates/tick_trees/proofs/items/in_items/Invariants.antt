use Rattle.std.proofs.Common.{◌≡◌, drop, map}
use Rattle.std.specs.List.{flat_map}
use Rattle.model_tree.specs.Views.{item_of}
use Rattle.tick_trees.specs.Times.{in_item}
use Rattle.tick_trees.specs.Unfit.{first, unfit_in}
use Rattle.tick_trees.proofs.items.in_items.Given as goal

-- what is found, if anything, is in what is left
abbrev pub invariant-loop-item : goal.invariant-loop-item
invariant-loop-item l = first (unfit_in l.fn.r) (flat_map in_item (map item_of l.fn.items)) ≡ first (unfit_in l.fn.r) (flat_map in_item (map item_of (drop l.item-index l.fn.items)))
