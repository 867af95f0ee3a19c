use Rattle.std.proofs.Common.{◌≡◌, ◌<◌, ℕ}
use Rattle.std.specs.Bool.{MatchBool}
use Rattle.elaborate_objects.specs.Marks.{count_of, KeepsFound, IsClosedAt}
use Rattle.elaborate_objects.proofs.found.find_downward.Given as goal

abbrev pub invariant-loop-k : goal.invariant-loop-k
invariant-loop-k l = record {
  counted : MatchBool l.found (count_of l.initial.marks < count_of l.marks)
      ((l.marks ≡ l.initial.marks) × ((k : ℕ) → k < l.k → IsClosedAt l.made l.place l.initial.marks k));
  found : KeepsFound l.made l.place l.initial.marks l.marks;
}
