-- The room that layers need, so that nothing that comes inside them takes memory.
use Rattle.std.specs.Prelude.{◌≡◌, ℕ, ◌+◌, ◌≤◌, List, [], ◌∷◌, Option, Some, None, Contains, length}
use Rattle.std.specs.Vec.{vec_capacity}
use Rattle.sim_model.specs.LogicValues.declared.kinds.Value.{Value}
use Rattle.sim_model.specs.FlatDesign.Code.{Arena}
use Rattle.sim_model.specs.FlatDesign.declared.code.CodeBody.{CodeBody}
use Rattle.sim_model.specs.Residual.{Residual, skip, block, first_locals}
use Rattle.kernel_bodies.specs.Depths.{blocks_of, depth_of, locals_at}
use Rattle.kernel_bodies.specs.declared.layers.Comes.{Comes}
use Rattle.kernel_bodies.specs.Layers.{layers_of, statement_of}
use Rattle.kernel_bodies.specs.declared.layers.Saved.{Saved}
use Rattle.kernel_bodies.specs.declared.layers.Open.{Open}
use Rattle.kernel_bodies.specs.declared.layers.Open.TheVariants as layer

-- The blocks inside a statement fit, if what it puts around them begins at this place.
abbrev pub FitsBlocks : Arena → List ℕ → ℕ → ℕ → ℕ → Type 0
FitsBlocks a depths most i s = (j : ℕ) → Contains (blocks_of a s) j → i + depth_of depths j + 2 ≤ most

abbrev pub FitsStatement : Arena → List ℕ → ℕ → ℕ → Option ℕ → Type 0
FitsStatement a depths most i None = i ≤ most
FitsStatement a depths most i (Some s) = (i ≤ most) × FitsBlocks a depths most i s

-- An unwinding is one layer more: one place is kept for it, but not inside another.
abbrev pub kept_inside : ℕ → Open → ℕ
kept_inside t (layer.Rest c) = t
kept_inside t (layer.Again s) = t
kept_inside t (layer.Owed u) = t
kept_inside t (layer.Guard u) = t
kept_inside t (layer.Try s) = t
kept_inside t layer.Run = t
kept_inside t (layer.Goal k) = 0

-- a layer at place i has room for what may come in its place and inside it, with t places more
abbrev pub FitsLayer : Arena → List ℕ → ℕ → ℕ → ℕ → Open → Type 0
FitsLayer a depths most t i (layer.Rest c) = i + t + depth_of depths c.block + 1 ≤ most
FitsLayer a depths most t i (layer.Again s) = (i + t + 1 ≤ most) × FitsBlocks a depths most (i + t) s
FitsLayer a depths most t i (layer.Owed u) = i + t + depth_of depths u + 2 ≤ most
FitsLayer a depths most t i (layer.Guard u) = i + t + depth_of depths u + 2 ≤ most
FitsLayer a depths most t i (layer.Try s) = (i + t + 1 ≤ most) × FitsBlocks a depths most (i + t) s
FitsLayer a depths most t i layer.Run = i + t + 1 ≤ most
FitsLayer a depths most t i (layer.Goal k) = i + 1 ≤ most

-- all layers from place i on
abbrev pub FitsAll : Arena → List ℕ → ℕ → ℕ → ℕ → List Open → Type 0
FitsAll a depths most t i [] = Unit {0}
FitsAll a depths most t i (l ∷ ls) = FitsLayer a depths most t i l × FitsAll a depths most (kept_inside t l) (i + 1) ls

abbrev pub kept_along : ℕ → List Open → ℕ
kept_along t [] = t
kept_along t (l ∷ ls) = kept_along (kept_inside t l) ls

-- layers from place i on, and a statement inside them
abbrev pub Fits : Arena → List ℕ → ℕ → ℕ → ℕ → List Open → Option ℕ → Type 0
Fits a depths most t i ls s = FitsAll a depths most t i ls × FitsStatement a depths most (i + length ls + kept_along t ls) s

-- the same of what begins in place of a layer
abbrev pub FitsIf : Arena → List ℕ → ℕ → ℕ → ℕ → Option Comes → Type 0
FitsIf a depths most t i None = Unit {0}
FitsIf a depths most t i (Some c) = Fits a depths most t i (layers_of c) (statement_of c)

-- the blocks of a saved frame fit, with this statement inside them
abbrev pub FitsIn : Arena → List ℕ → Saved → Option ℕ → Type 0
FitsIn a depths x s = Fits a depths (vec_capacity x.blocks) 1 0 x.blocks.items s

abbrev pub EachFitsIn : Arena → List ℕ → List Saved → Type 0
EachFitsIn a depths [] = Unit {0}
EachFitsIn a depths (x ∷ xs) = FitsIn a depths x None × EachFitsIn a depths xs

-- the innermost of saved frames has room for the statement
abbrev pub FitsLast : Arena → List ℕ → List Saved → Option ℕ → Type 0
FitsLast a depths [] s = Unit {0}
FitsLast a depths (x ∷ []) s = FitsIn a depths x s
FitsLast a depths (x ∷ y ∷ ys) s = FitsLast a depths (y ∷ ys) s

-- all saved frames have room for what may come inside them
pub record FitsFrames (a : Arena) (depths : List ℕ) (xs : List Saved) (s : Option ℕ) : Type 0 where
  pub each : EachFitsIn a depths xs
  pub last : FitsLast a depths xs s

-- How much the vectors of the body's own call have room for: those of the outermost frame that is no call, or else so much.
abbrev pub room_of_own : Option ℕ → ℕ → ℕ → ℕ
room_of_own None own other = own
room_of_own (Some call) own other = other

abbrev pub own_locals : ℕ → List Saved → ℕ
own_locals spare [] = spare
own_locals spare (x ∷ xs) = room_of_own x.frame.call (vec_capacity x.frame.locals) (own_locals spare xs)

abbrev pub own_blocks : ℕ → List Saved → ℕ
own_blocks spare [] = spare
own_blocks spare (x ∷ xs) = room_of_own x.frame.call (vec_capacity x.blocks) (own_blocks spare xs)

-- new is the frame old with other blocks, in as much memory; with another answer or other values of local variables too
pub record SameCall (old new : Saved) : Type 0 where
  pub frame : new.frame ≡ old.frame
  pub shell : new.shell ≡ old.shell
  pub room : vec_capacity old.blocks ≤ vec_capacity new.blocks

pub record SameRoom (old new : Saved) : Type 0 where
  pub call : new.frame.call ≡ old.frame.call
  pub locals : vec_capacity new.frame.locals ≡ vec_capacity old.frame.locals
  pub room : vec_capacity old.blocks ≤ vec_capacity new.blocks

-- the block of a body: what is left of it when it begins, and how many layers may come inside it
abbrev pub begun_in : Arena → Option CodeBody → Residual
begun_in a None = skip
begun_in a (Some b) = block a b.block

abbrev pub body_depth : List ℕ → Option CodeBody → ℕ
body_depth depths None = 0
body_depth depths (Some b) = depth_of depths b.block

-- how many parameters and local variables a call has that begins with these arguments
abbrev pub locals_with : Arena → ℕ → List Value → ℕ
locals_with a f args = length (first_locals args (locals_at a f))
