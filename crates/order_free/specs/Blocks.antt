-- What is used in each block of the code by names, and where each block leads: to the blocks of its statements, and to those of the
-- bodies that they call.
use Rattle.std.specs.Prelude.{◌≡◌, ℕ, List, [], ◌∷◌, ◌++◌, length, slice_get, Option, Some, None}
use Rattle.std.specs.List.{flat_map}
use Rattle.flat_design.specs.Code.{Statement, Arena, block_at, statement_at, body_at}
use Rattle.flat_design.specs.Facts.{Called, no_call, function, nonblocking, blocking, facts}
use Rattle.flat_design.specs.Reach.{inner_blocks}
use Rattle.flat_design.specs.declared.code.CodeBody.{CodeBody}
use Rattle.order_free.specs.Uses.{deeds_of}
use Rattle.order_free.specs.declared.uses.Deed.{Deed}
use Rattle.order_free.specs.declared.blocks.BlockPart.{BlockPart}

abbrev pub block_of : Option CodeBody → List ℕ
block_of None = []
block_of (Some b) = b.block ∷ []

-- the block of the body that a statement calls
abbrev pub blocks_called : Arena → Called → List ℕ
blocks_called a no_call = []
blocks_called a (function x f arguments) = block_of (body_at a f)
blocks_called a (nonblocking x s p phase delay) = []
blocks_called a (blocking s p delay) = []

abbrev pub called_blocks : Arena → Statement → List ℕ
called_blocks a s = blocks_called a (facts s).called

abbrev pub targets_of : Arena → Statement → List ℕ
targets_of a s = inner_blocks s ++ called_blocks a s

-- of what stands under a number, if a statement does
abbrev pub where_found : {X : Type 0} → (Statement → List X) → Option Statement → List X
where_found f None = []
where_found f (Some s) = f s

abbrev pub deeds_at : Arena → ℕ → List Deed
deeds_at a n = where_found deeds_of (statement_at a n)

abbrev pub targets_at : Arena → ℕ → List ℕ
targets_at a n = where_found (targets_of a) (statement_at a n)

-- a block of these statements, as it is kept
pub record IsPartOf (a : Arena) (block : List ℕ) (part : BlockPart) : Type 0 where
  pub deeds : part.deeds ≡ flat_map (deeds_at a) block
  pub targets : part.targets ≡ flat_map (targets_at a) block

-- the blocks of the code, as they are kept
pub record ArePartsOf (a : Arena) (parts : List BlockPart) : Type 0 where
  pub many : length parts ≡ length a.blocks
  pub each : (b : ℕ) (part : BlockPart) → slice_get parts b ≡ Some part → IsPartOf a (block_at a b) part
