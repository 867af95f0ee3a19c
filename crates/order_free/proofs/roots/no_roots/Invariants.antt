use Rattle.std.proofs.Common.{◌≡◌, replicate, []}
use Rattle.order_free.proofs.roots.no_roots.Given as goal

abbrev pub invariant-loop : goal.invariant-loop
invariant-loop l = l.rows.items ≡ replicate l.counter []
