use Rattle.std.proofs.Common.{◌≡◌, ◌++◌, filter_map, drop}
use Rattle.check_expressions.specs.CheckNames.ModuleNames.{items_of}
use Rattle.check_reach.specs.Flat.{placed_list}
use Rattle.check_reach.specs.Sets.{edge_of}
use Rattle.check_reach.proofs.calls.add_calls.Given as goal

abbrev pub invariant-loop-placed : goal.invariant-loop-placed
invariant-loop-placed l = l.edges.items ++ filter_map (edge_of (items_of l.names) l.source) (placed_list (drop l.placed-index l.statements)) ≡ l.fn.edges.items ++ filter_map (edge_of (items_of l.names) l.source) (placed_list l.statements)
