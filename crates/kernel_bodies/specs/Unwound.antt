-- What an unwinding makes of open blocks and of saved frames, and what it leaves.
use Rattle.std.specs.Prelude.{◌≡◌, ℕ, zero, suc, Bool, true, false, ◌++◌, List, [], ◌∷◌, Option, Some, None, option_map}
use Rattle.std.specs.Vec.{vec_capacity}
use Rattle.sim_model.specs.FlatDesign.Code.{Arena}
use Rattle.sim_model.specs.FlatDesign.declared.code.Handler.{Handler}
use Rattle.sim_model.specs.Unwinding.{handler_of, left_via}
use Rattle.sim_model.specs.declared.plain.Via.{Via}
use Rattle.kernel_bodies.specs.Depths.{handlers_of}
use Rattle.kernel_bodies.specs.declared.layers.Saved.{Saved}
use Rattle.kernel_bodies.specs.declared.layers.Open.{Open}
use Rattle.kernel_bodies.specs.declared.layers.Open.TheVariants as layer

-- a guard owes its unwind block, what is owed or begun stays, and all else is let go
abbrev pub unwound : Open → Option Open
unwound (layer.Rest c) = None
unwound (layer.Again s) = None
unwound (layer.Owed u) = Some (layer.Owed u)
unwound (layer.Guard u) = Some (layer.Owed u)
unwound (layer.Try s) = None
unwound layer.Run = Some layer.Run
unwound (layer.Goal k) = None

abbrev pub in_front : Option Open → List Open → List Open
in_front None ls = ls
in_front (Some l) ls = l ∷ ls

abbrev pub unwound_all : List Open → List Open
unwound_all [] = []
unwound_all (l ∷ ls) = in_front (unwound l) (unwound_all ls)

-- a saved frame that is being unwound
pub record IsUnwound (old new : Saved) : Type 0 where
  pub frame : new.frame ≡ old.frame
  pub shell : new.shell ≡ true
  pub blocks : new.blocks.items ≡ unwound_all old.blocks.items
  pub room : vec_capacity new.blocks ≡ vec_capacity old.blocks

-- the saved frames from a place on are being unwound, and those outside it are as they were
abbrev pub AreUnwound : ℕ → List Saved → List Saved → Type 0
AreUnwound n [] [] = Unit {0}
AreUnwound n [] (y ∷ ys) = ⊥
AreUnwound n (x ∷ xs) [] = ⊥
AreUnwound zero (x ∷ xs) (y ∷ ys) = IsUnwound x y × AreUnwound zero xs ys
AreUnwound (suc n) (x ∷ xs) (y ∷ ys) = (y ≡ x) × AreUnwound n xs ys

-- the block of the handler of a `try` for an exception
abbrev pub handler_in : Arena → ℕ → Open → Option ℕ
handler_in a e (layer.Rest c) = None
handler_in a e (layer.Again s) = None
handler_in a e (layer.Owed u) = None
handler_in a e (layer.Guard u) = None
handler_in a e (layer.Try s) = option_map (λ (h : Handler). h.block) (handler_of (handlers_of a s) e)
handler_in a e layer.Run = None
handler_in a e (layer.Goal k) = None

-- the transport call that an unwinding of a frame leaves
abbrev pub left_by_frame : Bool → Option Via → Option Via
left_by_frame false via = via
left_by_frame true via = None

abbrev pub left_at : Saved → Option Via
left_at x = left_by_frame x.shell x.frame.via

abbrev pub left_all : List Saved → List Via
left_all [] = []
left_all (x ∷ xs) = left_all xs ++ left_via (left_at x)
