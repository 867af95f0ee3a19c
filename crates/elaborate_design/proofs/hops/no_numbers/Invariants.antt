use Rattle.std.proofs.Common.{◌≡◌, None, replicate}
use Rattle.elaborate_design.proofs.hops.no_numbers.Given as goal

abbrev pub invariant-loop : goal.invariant-loop
invariant-loop l = l.table.items ≡ replicate l.counter None
