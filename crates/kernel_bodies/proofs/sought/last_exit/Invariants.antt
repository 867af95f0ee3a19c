use Rattle.std.proofs.Common.{◌≤◌, length, drop}
use Rattle.kernel_bodies.specs.Sought.{is_exit, NoneIs}
use Rattle.kernel_bodies.proofs.sought.last_exit.Given as goal

abbrev pub invariant-loop-place : goal.invariant-loop-place
invariant-loop-place l = record {
  few : l.place ≤ length l.frames;
  none : NoneIs is_exit (drop l.place l.frames);
}

abbrev pub decreases-loop-place : goal.decreases-loop-place
decreases-loop-place l = l.place
