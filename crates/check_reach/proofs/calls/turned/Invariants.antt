use Rattle.std.proofs.Common.{◌≡◌, ◌++◌, map, drop}
use Rattle.check_reach.specs.Sets.{turned}
use Rattle.check_reach.proofs.calls.turned.Given as goal

abbrev pub invariant-loop-edge : goal.invariant-loop-edge
invariant-loop-edge l = l.back.items ++ map turned (drop l.edge-index l.edges) ≡ map turned l.edges
