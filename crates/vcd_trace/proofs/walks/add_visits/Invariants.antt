use Rattle.std.proofs.Common.{◌≡◌, ◌++◌, drop, reverse}
use Rattle.vcd_trace.specs.Walks.{visits}
use Rattle.vcd_trace.proofs.walks.add_visits.Given as goal

abbrev pub invariant-loop-place : goal.invariant-loop-place
invariant-loop-place l = l.tasks.items ≡ l.fn.tasks.items ++ visits l.levels (reverse (drop l.place l.items))
