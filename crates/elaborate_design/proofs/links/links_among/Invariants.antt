use Rattle.std.proofs.Common.{◌≡◌, map, take}
use Rattle.std.specs.List.{flat_map}
use Rattle.elaborate_objects.specs.ModelTree.Views.{item_of, modules_of}
use Rattle.elaborate_design.specs.Links.{link_of, links_by}
use Rattle.elaborate_design.proofs.links.links_among.Given as goal

abbrev pub invariant-loop-item : goal.invariant-loop-item
invariant-loop-item l = map link_of l.links ≡ flat_map (links_by (modules_of l.modules)) (map item_of (take l.item-index l.items))
