use Rattle.bus_router.specs.Times.{row_at}
use Rattle.bus_router.specs.GrantsSofar.{LeftSofar}
use Rattle.bus_router.proofs.granting.grants_of.Given as goal

abbrev pub invariant-loop-j : goal.invariant-loop-j
invariant-loop-j l = LeftSofar l.bus (row_at l.rows) l.grants l.j
