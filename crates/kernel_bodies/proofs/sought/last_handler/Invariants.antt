use Rattle.std.proofs.Common.{◌≤◌, length, drop}
use Rattle.sim_model.specs.FlatDesign.Code.{arena_of}
use Rattle.kernel_bodies.specs.Sought.{has_handler, NoneIs}
use Rattle.kernel_bodies.proofs.sought.last_handler.Given as goal

abbrev pub invariant-loop-place : goal.invariant-loop-place
invariant-loop-place l = record {
  few : l.place ≤ length l.frames;
  none : NoneIs (has_handler (arena_of l.program.code) l.name) (drop l.place l.frames);
}

abbrev pub decreases-loop-place : goal.decreases-loop-place
decreases-loop-place l = l.place
