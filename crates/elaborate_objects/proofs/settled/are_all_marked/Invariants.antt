use Rattle.std.proofs.Common.{◌≡◌, ◌<◌, ℕ, true}
use Rattle.elaborate_objects.specs.Marks.{is_marked}
use Rattle.elaborate_objects.proofs.settled.are_all_marked.Given as goal

abbrev pub invariant-loop-marked : goal.invariant-loop-marked
invariant-loop-marked l = (k : ℕ) → k < l.marked-index → is_marked l.marks k ≡ true
