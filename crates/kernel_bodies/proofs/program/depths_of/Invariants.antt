use Rattle.std.proofs.Common.{◌≡◌, ℕ, ◌≤◌, ◌*◌, length}
use Rattle.sim_model.specs.FlatDesign.Code.{arena_of}
use Rattle.kernel_bodies.specs.Depths.{IsDeepBelow, depth_of}
use Rattle.kernel_bodies.proofs.program.depths_of.Given as goal

abbrev pub invariant-loop-statements : goal.invariant-loop-statements
invariant-loop-statements l = record {
  many : length l.depths.items ≡ l.statements-index;
  small : (j : ℕ) → depth_of l.depths.items j ≤ 2 * j;
  deep : IsDeepBelow (arena_of l.code) l.depths.items l.statements-index;
}
