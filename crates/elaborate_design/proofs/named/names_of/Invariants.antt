use Rattle.std.proofs.Common.{◌≡◌, ◌++◌, map, drop}
use Rattle.elaborate_objects.specs.ModelTree.Views.{item_of}
use Rattle.elaborate_objects.specs.DesignRules.Denoting.{names_in}
use Rattle.elaborate_design.proofs.named.names_of.Given as goal

abbrev pub invariant-loop-item : goal.invariant-loop-item
invariant-loop-item l = l.names ++ names_in l.all l.objects l.instance (map item_of (drop l.item-index l.items)) ≡ names_in l.all l.objects l.instance (map item_of l.items)
