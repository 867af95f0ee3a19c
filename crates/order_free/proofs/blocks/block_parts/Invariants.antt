use Rattle.std.proofs.Common.{◌≡◌, ℕ, length, Some}
use Rattle.std.specs.Prelude.{slice_get}
use Rattle.flat_design.specs.Code.{arena_of, block_at}
use Rattle.order_free.specs.Blocks.{IsPartOf}
use Rattle.order_free.specs.declared.blocks.BlockPart.{BlockPart}
use Rattle.order_free.proofs.blocks.block_parts.Given as goal

abbrev pub invariant-loop-block : goal.invariant-loop-block
invariant-loop-block l = record {
  many : length l.parts.items ≡ l.block-index;
  each : (b : ℕ) (part : BlockPart) → slice_get l.parts.items b ≡ Some part → IsPartOf (arena_of l.code) (block_at (arena_of l.code) b) part;
}
