use Rattle.std.proofs.Common.{◌≡◌, map, take}
use Rattle.std.specs.List.{flat_map}
use Rattle.check_names.specs.ModelTree.Views.{item_of, modules_of}
use Rattle.design_rules.specs.ObjectFaults.{made_by}
use Rattle.elaborate_objects.proofs.made.made_among.Given as goal

abbrev pub invariant-loop-item : goal.invariant-loop-item
invariant-loop-item l = l.made ≡ flat_map (made_by (modules_of l.modules)) (map item_of (take l.item-index l.items))
