use Rattle.std.proofs.Common.{length}
use Rattle.bus_router.specs.Times.{row_at}
use Rattle.bus_runs.specs.Sofar.{HopsSofar}
use Rattle.bus_runs.proofs.hops.hops_of.Given as goal

abbrev pub invariant-loop-home : goal.invariant-loop-home
invariant-loop-home l = HopsSofar l.bus (row_at l.rows) l.hops.items (length l.bus.initiators) l.home
