use Rattle.std.specs.Prelude.{MatchOption}
use Rattle.bus_router.specs.Times.{row_at}
use Rattle.bus_router.specs.Holding.{NoneBrings, LastBrings}
use Rattle.bus_router.proofs.holding.last_bringing.Given as goal

abbrev pub invariant-loop-j : goal.invariant-loop-j
invariant-loop-j l = MatchOption l.last (NoneBrings l.bus (row_at l.rows) l.range l.i l.j) (LastBrings l.bus (row_at l.rows) l.range l.i l.j)
