use Rattle.std.proofs.Common.{length}
use Rattle.kernel_processes.specs.Moves.{MeetsSome}
use Rattle.kernel_processes.proofs.waking.meet_all.Given as goal

-- some of the woken met their wakes, and the others are still listed
abbrev pub invariant-loop-p : goal.invariant-loop-p
invariant-loop-p g l = MeetsSome l.initial.s l.s

abbrev pub decreases-loop-p : goal.decreases-loop-p
decreases-loop-p g l = length l.s.woken.items
