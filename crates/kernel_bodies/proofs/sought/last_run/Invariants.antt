use Rattle.std.proofs.Common.{◌≤◌, length, drop}
use Rattle.kernel_bodies.specs.Sought.{is_run, NoneIs}
use Rattle.kernel_bodies.proofs.sought.last_run.Given as goal

abbrev pub invariant-loop-place : goal.invariant-loop-place
invariant-loop-place l = record {
  few : l.place ≤ length l.blocks;
  none : NoneIs is_run (drop l.place l.blocks);
}

abbrev pub decreases-loop-place : goal.decreases-loop-place
decreases-loop-place l = l.place
