use Rattle.std.proofs.Common.{◌≡◌, ◌++◌, [], map, drop}
use Rattle.elaborate_objects.specs.ModelTree.Views.{item_of}
use Rattle.elaborate_objects.specs.DesignRules.Statics.{lists_among}
use Rattle.elaborate_design.proofs.statics.add_lists.Given as goal

abbrev pub invariant-loop-item : goal.invariant-loop-item
invariant-loop-item l =
    l.lists.items ++ lists_among [] (map item_of l.items) (map item_of (drop l.item-index l.items))
    ≡ l.fn.lists.items ++ lists_among [] (map item_of l.items) (map item_of l.items)
