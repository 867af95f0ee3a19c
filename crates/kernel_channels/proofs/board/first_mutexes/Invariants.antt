use Rattle.std.proofs.Common.{◌≡◌, None, replicate, vec_capacity}
use Rattle.kernel_channels.proofs.board.first_mutexes.Given as goal

abbrev pub invariant-loop : goal.invariant-loop
invariant-loop l = (l.mutexes.items ≡ replicate l.counter None) × (vec_capacity l.mutexes ≡ l.size)
