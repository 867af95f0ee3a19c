use Rattle.std.proofs.Common.{◌≡◌, ◌++◌, map, drop}
use Rattle.check_names.specs.ModelTree.Views.{item_of}
use Rattle.elaborate_objects.specs.Names.{names_of_bodies}
use Rattle.elaborate_objects.proofs.row_names.bodies_among.Given as goal

abbrev pub invariant-loop-item : goal.invariant-loop-item
invariant-loop-item l = l.bodies ++ names_of_bodies (map item_of (drop l.item-index l.items)) ≡ names_of_bodies (map item_of l.items)
