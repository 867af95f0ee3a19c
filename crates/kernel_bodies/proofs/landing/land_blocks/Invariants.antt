use Rattle.std.proofs.Common.{◌≡◌, ℕ, ◌≤◌, length, take, None}
use Rattle.sim_model.specs.FlatDesign.Code.{arena_of}
use Rattle.sim_model.specs.Residual.{skip, settle}
use Rattle.kernel_bodies.specs.Layers.{inside}
use Rattle.kernel_bodies.specs.Room.{Fits}
use Rattle.kernel_bodies.proofs.landing.land_blocks.Given as goal

abbrev pub invariant-loop-stand : goal.invariant-loop-stand
invariant-loop-stand l = record {
  few : l.stand ≤ length l.blocks;
  settled : settle (arena_of l.program.code) (inside (arena_of l.program.code) l.blocks skip) ≡ settle (arena_of l.program.code) (inside (arena_of l.program.code) (take l.stand l.blocks) skip);
  room : (most : ℕ) → Fits (arena_of l.program.code) l.program.depths.items most 1 0 l.blocks None → Fits (arena_of l.program.code) l.program.depths.items most 1 0 (take l.stand l.blocks) None;
}

abbrev pub decreases-loop-stand : goal.decreases-loop-stand
decreases-loop-stand l = l.stand
