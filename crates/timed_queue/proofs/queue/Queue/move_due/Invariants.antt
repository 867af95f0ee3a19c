use Rattle.std.proofs.Common.{◌≡◌, ℕ, ◌+◌, cond, List, ◌++◌, length, vec_capacity}
use Rattle.std.specs.Prelude.{count_by, ◌==◌}
use Rattle.std.specs.FinMap as map
use Rattle.timed_queue.specs.Timed.{due_at, is_due, without_due}
use Rattle.timed_queue.proofs.queue.Queue.move_due.Given as goal

abbrev pub invariant-taking : goal.invariant-taking
invariant-taking l = record {
  added : List ℕ;
  behind : l.out.items ≡ l.initial.out.items ++ added;
  once : (p : ℕ) → count_by (λ x. x == p) added + cond (is_due l.self.times l.t p) 1 0 ≡ cond (is_due l.initial.self.times l.t p) 1 0;
  left : without_due l.self l.t ≡ without_due l.initial.self l.t;
  size : length l.out.items + map.len (due_at l.self.times l.t) ≡ length l.initial.out.items + map.len (due_at l.initial.self.times l.t);
  room : vec_capacity l.out ≡ vec_capacity l.initial.out;
}

abbrev pub decreases-taking : goal.decreases-taking
decreases-taking l = map.len (due_at l.self.times l.t)
