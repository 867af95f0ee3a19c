use Rattle.std.proofs.Common.{◌≡◌, ◌≤◌, length, take}
use Rattle.kernel_bodies.specs.Sought.{last_via}
use Rattle.kernel_bodies.proofs.sought.last_via.Given as goal

abbrev pub invariant-loop-place : goal.invariant-loop-place
invariant-loop-place l = record {
  few : l.place ≤ length l.frames;
  same : last_via l.frames ≡ last_via (take l.place l.frames);
}

abbrev pub decreases-loop-place : goal.decreases-loop-place
decreases-loop-place l = l.place
