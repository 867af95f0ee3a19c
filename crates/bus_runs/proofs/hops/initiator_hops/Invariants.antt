use Rattle.bus_router.specs.Times.{row_at}
use Rattle.bus_runs.specs.Sofar.{HopsSofar}
use Rattle.bus_runs.proofs.hops.initiator_hops.Given as goal

abbrev pub invariant-loop-i : goal.invariant-loop-i
invariant-loop-i l = HopsSofar l.bus (row_at l.rows) l.hops.items l.i 0
