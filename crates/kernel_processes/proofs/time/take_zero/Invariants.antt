use Rattle.std.proofs.Common.{length, ◌-◌}
use Rattle.std.specs.FinMap as map
use Rattle.kernel_processes.specs.Times.{TakesSome}
use Rattle.kernel_processes.proofs.time.take_zero.Given as goal

-- some of those with a zero time-out are due
abbrev pub invariant-loop-p : goal.invariant-loop-p
invariant-loop-p g l = TakesSome (λ x. x.zero) l.initial.s l.s

abbrev pub decreases-loop-p : goal.decreases-loop-p
decreases-loop-p g l = map.len l.s.table.live - length l.s.due.items
