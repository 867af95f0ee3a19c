use Rattle.std.proofs.Common.{ℕ, ◌-◌, Bool, length}
use Rattle.timed_queue.specs.Alone.{IsNoted}
use Rattle.timed_queue.proofs.noted.grow.Given as goal

abbrev pub invariant-growing : goal.invariant-growing
invariant-growing l = (test : ℕ → Bool) → IsNoted l.initial.flags.items test → IsNoted l.flags.items test

abbrev pub decreases-growing : goal.decreases-growing
decreases-growing l = l.n - length l.flags.items
