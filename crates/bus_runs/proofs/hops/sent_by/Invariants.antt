use Rattle.std.proofs.Common.{◌≡◌, take, length}
use Rattle.std.specs.Prelude.{filter}
use Rattle.std.specs.List.{range_with_len}
use Rattle.bus_router.specs.Times.{row_at}
use Rattle.bus_runs.specs.Entries.{is_sent}
use Rattle.bus_runs.proofs.hops.sent_by.Given as goal

abbrev pub invariant-loop-k : goal.invariant-loop-k
invariant-loop-k l = l.ks.items ≡ filter (is_sent l.bus (row_at l.rows) l.i) (take l.k (range_with_len 0 (length l.bus.lines)))
