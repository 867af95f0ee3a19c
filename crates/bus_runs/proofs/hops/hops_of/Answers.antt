use Rattle.std.proofs.Common.{◌+◌, length, sym, subst}
use Rattle.bus_router.specs.Times.{row_at}
use Rattle.bus_runs.specs.Sofar.{HopsSofar}
use Rattle.bus_runs.proofs.Joined.{target_more}
use Rattle.bus_runs.proofs.hops.hops_of.Goals as goal

pub loop-home-preserved : goal.loop-home-preserved
loop-home-preserved c =
    let bus = c.args.bus.now in
    let table = row_at c.args.rows.now in
    subst (λ hs. HopsSofar bus table hs (length bus.initiators) (c.loop-home.home + 1)) (sym c.in_ok-push.ensures.items)
    (target_more bus table c.loop-home.hops.items (length bus.initiators) c.loop-home.home c.loop-home.invariant c.in_ok-hop.hop c.in_ok-hop.ensures)
