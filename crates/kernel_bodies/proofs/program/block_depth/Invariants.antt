use Rattle.std.proofs.Common.{ℕ, ◌<◌, ◌≤◌, ◌*◌, length, get_or}
use Rattle.sim_model.specs.FlatDesign.Code.{arena_of}
use Rattle.kernel_bodies.specs.Depths.{EachFits, blocks_of}
use Rattle.kernel_bodies.proofs.program.block_depth.Given as goal

abbrev pub invariant-loop-number : goal.invariant-loop-number
invariant-loop-number l = record {
  small : l.depth ≤ 2 * length l.depths;
  deep : (k : ℕ) → k < l.number-index → EachFits l.depths l.depth (blocks_of (arena_of l.code) (get_or l.statements k 0));
}
