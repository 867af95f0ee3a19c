use Rattle.std.proofs.Common.{◌≡◌, ◌++◌, map, drop}
use Rattle.elaborate_objects.specs.DesignRules.Parts.{hop_of}
use Rattle.elaborate_design.proofs.hops.hops.Given as goal

abbrev pub invariant-loop-sockets : goal.invariant-loop-sockets
invariant-loop-sockets l = l.hops ++ map (hop_of l.objects) (drop l.sockets-index l.joined) ≡ map (hop_of l.objects) l.joined
