use Rattle.std.proofs.Common.{◌≡◌, ◌+◌, ◌≤◌, length, take}
use Rattle.std.specs.Prelude.{slice_get}
use Rattle.kernel_bodies.specs.Unwound.{left_all}
use Rattle.kernel_bodies.proofs.unwinding.left_by.Given as goal

abbrev pub invariant-loop-place : goal.invariant-loop-place
invariant-loop-place l = record {
  few : l.place ≤ length l.frames;
  seen : l.number + l.place ≤ l.more + length l.frames;
  same : slice_get (left_all l.frames) l.number ≡ slice_get (left_all (take l.place l.frames)) l.more;
}

abbrev pub decreases-loop-place : goal.decreases-loop-place
decreases-loop-place l = l.place
