use Rattle.std.proofs.Common.{◌≡◌, ℕ, ◌*◌, ◌<◌}
use Rattle.timed_queue.specs.Marked.{mark_of}
use Rattle.timed_queue.proofs.marks.Words.first.Given as goal

abbrev pub invariant-levels : goal.invariant-levels
invariant-levels l = (q : ℕ) → q < 64 * l.level → mark_of l.self.words q ≡ 0
