use Rattle.std.proofs.Common.{◌≡◌, ◌++◌, drop}
use Rattle.check_expressions.specs.CheckNames.ModuleNames.{items_of}
use Rattle.check_reach.specs.Flat.{seen_list}
use Rattle.check_reach.specs.Sets.{edges_of}
use Rattle.check_reach.proofs.calls.edges_of.Given as goal

abbrev pub invariant-loop-body : goal.invariant-loop-body
invariant-loop-body l = l.edges.items ++ edges_of (items_of l.names) (seen_list (drop l.body-index l.bodies)) ≡ edges_of (items_of l.names) (seen_list l.bodies)
