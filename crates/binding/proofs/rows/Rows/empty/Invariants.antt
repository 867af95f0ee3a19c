use Rattle.std.proofs.Common.{◌≡◌, [], replicate}
use Rattle.binding.proofs.rows.Rows.empty.Given as goal

abbrev pub invariant-loop : goal.invariant-loop
invariant-loop g l = l.rows.items ≡ replicate l.counter []
