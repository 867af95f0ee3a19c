use Rattle.std.proofs.Common.{◌≡◌, ◌++◌, drop}
use Rattle.elaborate_objects.specs.ModelTree.Views.{modules_of}
use Rattle.elaborate_objects.specs.DesignRules.Statics.{static_lists}
use Rattle.elaborate_design.proofs.statics.static_lists.Given as goal

abbrev pub invariant-loop-found : goal.invariant-loop-found
invariant-loop-found l = l.lists.items ++ static_lists (modules_of (drop l.found-index l.modules)) ≡ static_lists (modules_of l.modules)
