-- Saved frames and the place inside them stand for one residual.
use Rattle.std.proofs.Common.{◌≡◌, ℕ, Bool, true, false, List, [], ◌∷◌, ◌++◌, Option, Some, None, refl, sym, ap, ◌∙◌, subst, append_assoc}
use Rattle.std.proofs.lemmas.List.{append-nil}
use Rattle.kernel_bodies.specs.FlatDesign.Code.{Arena}
use Rattle.kernel_bodies.specs.SimModel.Residual as residual
use Rattle.kernel_bodies.specs.SimModel.Residual.{Residual}
use Rattle.kernel_bodies.specs.SimModel.declared.plain.Goal.{Goal}
use Rattle.kernel_bodies.specs.declared.layers.Saved.{Saved}
use Rattle.kernel_bodies.specs.declared.layers.Open.{Open}
use Rattle.kernel_bodies.specs.declared.layers.Open.TheVariants as layer
use Rattle.kernel_bodies.specs.Layers.{call_of, around, inside, wrapped, whole, inside_frames, under, standing}
use Rattle.kernel_bodies.proofs.Settling.{inside_append}
use Rattle.process_state.specs.Bodies as left
use Rattle.process_state.specs.Bodies.{IsLeft, aim, blocks_in}

module _ (a : Arena) (g : Option Goal) where
  aim_under : (g : Option Goal) (r : Residual) → inside a (aim g) r ≡ under g r
  aim_under None r = refl
  aim_under (Some k) r = refl

  -- what r is inside the frames fs, of which the innermost has only the blocks os, and inside the goal of all

  abbrev in_frames : Saved → List Saved → List Open → Residual → Residual
  in_frames x [] os r = wrapped x.shell (call_of x.frame) (inside a os r)
  in_frames x (y ∷ ys) os r = whole a x (in_frames y ys os r)

  abbrev outer : List Saved → List Open → Residual → Residual
  outer [] os r = inside a os r
  outer (x ∷ xs) os r = inside a (aim g) (in_frames x xs os r)

  all_frames : (x : Saved) (xs : List Saved) (r : Residual) → in_frames x xs (blocks_in g (x ∷ xs)) r ≡ inside_frames a (x ∷ xs) r
  all_frames x [] r = refl
  all_frames x (y ∷ ys) r = ap (whole a x) (all_frames y ys r)

  all_outer : (xs : List Saved) (r : Residual) → outer xs (blocks_in g xs) r ≡ under g (inside_frames a xs r)
  all_outer [] r = aim_under g r
  all_outer (x ∷ xs) r = ap (inside a (aim g)) (all_frames x xs r) ∙ aim_under g (inside_frames a (x ∷ xs) r)

  block_frames : (x : Saved) (xs : List Saved) (os : List Open) (l : Open) (r : Residual) → in_frames x xs (os ++ l ∷ []) r ≡ in_frames x xs os (around a l r)
  block_frames x [] os l r = ap (wrapped x.shell (call_of x.frame)) (inside_append a os (l ∷ []) r)
  block_frames x (y ∷ ys) os l r = ap (whole a x) (block_frames y ys os l r)

  block_outer : (fs : List Saved) (os : List Open) (l : Open) (r : Residual) → outer fs (os ++ l ∷ []) r ≡ outer fs os (around a l r)
  block_outer [] os l r = inside_append a os (l ∷ []) r
  block_outer (x ∷ xs) os l r = ap (inside a (aim g)) (block_frames x xs os l r)

  call_frames : (y : Saved) (ys : List Saved) (x : Saved) (r : Residual) → in_frames y (ys ++ x ∷ []) [] r ≡ in_frames y ys (blocks_in g (y ∷ ys)) (wrapped x.shell (call_of x.frame) r)
  call_frames y [] x r = refl
  call_frames y (z ∷ ys) x r = ap (whole a y) (call_frames z ys x r)

  call_outer : (fs : List Saved) (x : Saved) (r : Residual) → outer (fs ++ x ∷ []) [] r ≡ outer fs (blocks_in g fs) (wrapped x.shell (call_of x.frame) r)
  call_outer [] x r = refl
  call_outer (y ∷ ys) x r = ap (inside a (aim g)) (call_frames y ys x r)

  module _ (xs : List Saved) (at : Option ℕ) where
    standing_is : (o : Option ℕ) (r : Residual) → at ≡ o → standing o ≡ r → r ≡ standing at
    standing_is o r e f = sym f ∙ ap standing (sym e)

    -- no other
    pub alone : (fs : List Saved) (os : List Open) (r : Residual) → IsLeft a g xs at fs os r → outer fs os r ≡ under g (inside_frames a xs (standing at))
    alone _ _ _ (left.skip e) = all_outer xs residual.skip ∙ ap (λ q. under g (inside_frames a xs q)) (standing_is None residual.skip e refl)
    alone _ _ _ (left.statement s e) = all_outer xs (residual.one s) ∙ ap (λ q. under g (inside_frames a xs q)) (standing_is (Some s) (residual.one s) e refl)
    alone _ _ _ (left.rest fs os r c h) = sym (block_outer fs os (layer.Rest c) r) ∙ alone fs (os ++ layer.Rest c ∷ []) r h
    alone _ _ _ (left.again fs os r s h) = sym (block_outer fs os (layer.Again s) r) ∙ alone fs (os ++ layer.Again s ∷ []) r h
    alone _ _ _ (left.owed fs os r u h) = sym (block_outer fs os (layer.Owed u) r) ∙ alone fs (os ++ layer.Owed u ∷ []) r h
    alone _ _ _ (left.guard fs os r u h) = sym (block_outer fs os (layer.Guard u) r) ∙ alone fs (os ++ layer.Guard u ∷ []) r h
    alone _ _ _ (left.try_ fs os r s h) = sym (block_outer fs os (layer.Try s) r) ∙ alone fs (os ++ layer.Try s ∷ []) r h
    alone _ _ _ (left.run fs os r h) = sym (block_outer fs os layer.Run r) ∙ alone fs (os ++ layer.Run ∷ []) r h
    alone _ _ _ (left.goal fs os r k h) = sym (block_outer fs os (layer.Goal k) r) ∙ alone fs (os ++ layer.Goal k ∷ []) r h
    alone _ _ _ (left.frame fs x r e h) =
        ap (λ b. outer fs (blocks_in g fs) (wrapped b (call_of x.frame) r)) (sym e) ∙ sym (call_outer fs x r) ∙ alone (fs ++ x ∷ []) [] r h
    alone _ _ _ (left.shell fs x r e h) =
        ap (λ b. outer fs (blocks_in g fs) (wrapped b (call_of x.frame) r)) (sym e) ∙ sym (call_outer fs x r) ∙ alone (fs ++ x ∷ []) [] r h

    -- this one

    let_block : (fs : List Saved) (os : List Open) (l : Open) (r : Residual) → IsLeft a g xs at fs (os ++ l ∷ []) r → IsLeft a g xs at fs os (around a l r)
    let_block fs os (layer.Rest c) r h = left.rest fs os r c h
    let_block fs os (layer.Again s) r h = left.again fs os r s h
    let_block fs os (layer.Owed u) r h = left.owed fs os r u h
    let_block fs os (layer.Guard u) r h = left.guard fs os r u h
    let_block fs os (layer.Try s) r h = left.try_ fs os r s h
    let_block fs os layer.Run r h = left.run fs os r h
    let_block fs os (layer.Goal k) r h = left.goal fs os r k h

    let_blocks : (fs : List Saved) (os ps : List Open) (r : Residual) → IsLeft a g xs at fs (os ++ ps) r → IsLeft a g xs at fs os (inside a ps r)
    let_blocks fs os [] r h = let P : List Open → Type 0 = λ qs. IsLeft a g xs at fs qs r in subst P (append-nil os) h
    let_blocks fs os (l ∷ ps) r h =
        let P : List Open → Type 0 = λ qs. IsLeft a g xs at fs qs r in
        let_block fs os l (inside a ps r) (let_blocks fs (os ++ l ∷ []) ps r (subst P (sym (append_assoc os (l ∷ []) ps)) h))

    let_call : (fs : List Saved) (x : Saved) (r : Residual) → IsLeft a g xs at (fs ++ x ∷ []) [] r → IsLeft a g xs at fs (blocks_in g fs) (wrapped x.shell (call_of x.frame) r)
    let_call fs x r h = by_shell x.shell refl
      where
        by_shell : (b : Bool) → x.shell ≡ b → IsLeft a g xs at fs (blocks_in g fs) (wrapped b (call_of x.frame) r)
        by_shell false e = left.frame fs x r e h
        by_shell true e = left.shell fs x r e h

    blocks_last : (fs : List Saved) (x : Saved) → blocks_in g (fs ++ x ∷ []) ≡ x.blocks.items
    blocks_last [] x = refl
    blocks_last (y ∷ []) x = refl
    blocks_last (y ∷ z ∷ ys) x = blocks_last (z ∷ ys) x

    let_frames : (fs gs : List Saved) (r : Residual) → IsLeft a g xs at (fs ++ gs) (blocks_in g (fs ++ gs)) r → IsLeft a g xs at fs (blocks_in g fs) (inside_frames a gs r)
    let_frames fs [] r h = let P : List Saved → Type 0 = λ zs. IsLeft a g xs at zs (blocks_in g zs) r in subst P (append-nil fs) h
    let_frames fs (y ∷ ys) r h =
        let P : List Saved → Type 0 = λ zs. IsLeft a g xs at zs (blocks_in g zs) r in
        let w = let_frames (fs ++ y ∷ []) ys r (subst P (sym (append_assoc fs (y ∷ []) ys)) h) in
        let Q : List Open → Type 0 = λ qs. IsLeft a g xs at (fs ++ y ∷ []) qs (inside_frames a ys r) in
        let_call fs y (inside a y.blocks.items (inside_frames a ys r)) (let_blocks (fs ++ y ∷ []) [] y.blocks.items (inside_frames a ys r) (subst Q (blocks_last fs y) w))

    begin : IsLeft a g xs at xs (blocks_in g xs) (standing at)
    begin = by_place at refl
      where
        by_place : (o : Option ℕ) → at ≡ o → IsLeft a g xs at xs (blocks_in g xs) (standing o)
        by_place None e = left.skip e
        by_place (Some s) e = left.statement s e

    pub stands : IsLeft a g xs at [] [] (under g (inside_frames a xs (standing at)))
    stands =
        let w = let_blocks [] [] (aim g) (inside_frames a xs (standing at)) (let_frames [] xs (standing at) begin) in
        let P : Residual → Type 0 = λ r. IsLeft a g xs at [] [] r in
        subst P (aim_under g (inside_frames a xs (standing at))) w
