use Rattle.std.proofs.Common.{length, ◌-◌}
use Rattle.kernel_processes.specs.Times.{PutsSomeOver}
use Rattle.kernel_processes.proofs.time.put_all_over.Given as goal

-- the first of those that are due have no time any more
abbrev pub invariant-loop-place : goal.invariant-loop-place
invariant-loop-place g l = PutsSomeOver l.place l.initial.s l.s

abbrev pub decreases-loop-place : goal.decreases-loop-place
decreases-loop-place g l = length l.initial.s.due.items - l.place
