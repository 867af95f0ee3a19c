use Rattle.std.proofs.Common.{◌≡◌, ◌++◌, map, drop}
use Rattle.std.specs.List.{flat_map}
use Rattle.check_names.specs.ModelTree.Tree as tree
use Rattle.check_names.specs.ModelTree.Views.{modules_of}
use Rattle.design_rules.specs.ObjectFaults.{made_by}
use Rattle.elaborate_objects.specs.Marks.{made_of}
use Rattle.elaborate_objects.proofs.made.made_in.Given as goal

abbrev pub invariant-loop-module : goal.invariant-loop-module
invariant-loop-module l =
    l.made.items ++ map (λ (m : tree.Module). flat_map (made_by (modules_of l.modules)) m.items) (modules_of (drop l.module-index l.modules)) ≡ made_of (modules_of l.modules)
