use Rattle.std.proofs.Common.{take}
use Rattle.bus_runs.specs.Entries.{IsHopOf}
use Rattle.bus_runs.proofs.hops.hop_of.Given as goal

abbrev pub invariant-loop-k : goal.invariant-loop-k
invariant-loop-k l = IsHopOf (take l.k-index l.ks) l.hop.items
