use Rattle.std.proofs.Common.{◌≡◌, ◌≤◌, length, take}
use Rattle.sim_model.specs.FlatDesign.Code.{arena_of}
use Rattle.sim_model.specs.Residual.{skip, settle}
use Rattle.kernel_bodies.specs.Layers.{inside_frames}
use Rattle.kernel_bodies.proofs.landing.land.Given as goal

abbrev pub invariant-loop-many : goal.invariant-loop-many
invariant-loop-many l = record {
  few : l.many ≤ length l.frames;
  settled : settle (arena_of l.program.code) (inside_frames (arena_of l.program.code) l.frames skip) ≡ settle (arena_of l.program.code) (inside_frames (arena_of l.program.code) (take l.many l.frames) skip);
}

abbrev pub decreases-loop-many : goal.decreases-loop-many
decreases-loop-many l = l.many
