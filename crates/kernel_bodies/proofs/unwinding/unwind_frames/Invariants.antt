use Rattle.std.proofs.Common.{◌≡◌, ◌≤◌, vec_len}
use Rattle.std.specs.Vec.{vec_capacity}
use Rattle.kernel_bodies.specs.Unwound.{AreUnwound}
use Rattle.kernel_bodies.proofs.unwinding.unwind_frames.Given as goal

abbrev pub invariant-loop-place : goal.invariant-loop-place
invariant-loop-place l = record {
  some : l.from ≤ l.place;
  few : l.place ≤ vec_len l.frames;
  unwound : AreUnwound l.place l.initial.frames.items l.frames.items;
  capacity : vec_capacity l.frames ≡ vec_capacity l.initial.frames;
}

abbrev pub decreases-loop-place : goal.decreases-loop-place
decreases-loop-place l = l.place
