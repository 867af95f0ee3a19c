use Rattle.std.proofs.Common.{arith}
use Rattle.bus_runs.proofs.Joined.{hop_more}
use Rattle.bus_runs.proofs.hops.hop_of.Goals as goal

pub loop-k-preserved : goal.loop-k-preserved
loop-k-preserved c =
    hop_more c.args.ks.now c.loop-k.k-index c.loop-k.hop.items c.add_entries.new.hop.items (omega arith) c.loop-k.invariant c.in_ok-add_entries.ensures
