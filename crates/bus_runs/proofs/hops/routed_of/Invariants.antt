use Rattle.std.proofs.Common.{◌≡◌, take}
use Rattle.std.specs.Prelude.{filter}
use Rattle.bus_router.specs.Times.{row_at}
use Rattle.bus_runs.specs.Entries.{is_routed}
use Rattle.bus_runs.proofs.hops.routed_of.Given as goal

abbrev pub invariant-loop-k : goal.invariant-loop-k
invariant-loop-k l = l.ks.items ≡ filter (is_routed (row_at l.rows)) (take l.k-index l.order)
