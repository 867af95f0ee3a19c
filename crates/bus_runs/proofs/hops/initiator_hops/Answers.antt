use Rattle.std.proofs.Common.{◌+◌, refl, sym, subst}
use Rattle.bus_router.specs.Times.{row_at}
use Rattle.bus_runs.specs.Sofar.{HopsSofar}
use Rattle.bus_runs.proofs.Joined.{initiator_more}
use Rattle.bus_runs.proofs.hops.initiator_hops.Goals as goal

pub loop-i-preserved : goal.loop-i-preserved
loop-i-preserved c =
    let bus = c.args.bus.now in
    let table = row_at c.args.rows.now in
    subst (λ hs. HopsSofar bus table hs (c.loop-i.i + 1) 0) (sym c.in_ok-push.ensures.items)
    (initiator_more bus table c.loop-i.hops.items c.loop-i.i 0 c.loop-i.invariant c.in_ok-hop.hop refl c.in_ok-hop.ensures)
