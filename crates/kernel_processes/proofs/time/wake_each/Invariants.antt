use Rattle.std.proofs.Common.{◌≡◌, ◌++◌, ℕ, List, length}
use Rattle.kernel_processes.specs.Sound.{IsSound}
use Rattle.kernel_processes.specs.Times.{WakesThose}
use Rattle.kernel_processes.proofs.time.wake_each.Given as goal

-- those behind the ones that are still due met their wakes
abbrev pub invariant-loop-p : goal.invariant-loop-p
invariant-loop-p g l = (done : List ℕ) × ((l.initial.s.due.items ≡ l.s.due.items ++ done) × (WakesThose done l.initial.s l.s × IsSound l.s))

abbrev pub decreases-loop-p : goal.decreases-loop-p
decreases-loop-p g l = length l.s.due.items
