use Rattle.std.proofs.Common.{ℕ, List, ◌+◌, length}
use Rattle.check_reach.specs.Spreading as spec
use Rattle.check_reach.proofs.followed.follow.Given as goal

abbrev pub invariant-loop-n : goal.invariant-loop-n
invariant-loop-n l =
    (count : ℕ) (roots : List ℕ) → spec.IsUnderWay count l.rows roots (l.fn.marks.items, l.fn.waiting.items) → spec.IsUnderWay count l.rows roots (l.marks.items, l.waiting.items)

abbrev pub decreases-loop-n : goal.decreases-loop-n
decreases-loop-n l = spec.unmarked l.marks.items + length l.waiting.items
