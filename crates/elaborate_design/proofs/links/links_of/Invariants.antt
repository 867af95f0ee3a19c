use Rattle.std.proofs.Common.{◌≡◌, ◌++◌, map, drop}
use Rattle.std.specs.List.{flat_map}
use Rattle.elaborate_objects.specs.ModelTree.Tree as tree
use Rattle.elaborate_objects.specs.ModelTree.Views.{modules_of}
use Rattle.elaborate_design.specs.Links as spec
use Rattle.elaborate_design.specs.Links.{link_of, links_by}
use Rattle.elaborate_design.proofs.links.links_of.Given as goal

abbrev pub invariant-loop-module : goal.invariant-loop-module
invariant-loop-module l =
    map (map link_of) l.links.items ++ map (λ (m : tree.Module). flat_map (links_by (modules_of l.modules)) m.items) (modules_of (drop l.module-index l.modules)) ≡ spec.links_of (modules_of l.modules)
