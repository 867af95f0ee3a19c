-- The rest of a block, by a place in it.
use Rattle.std.proofs.Common.{◌≡◌, ℕ, ◌+◌, List, [], ◌∷◌, Option, Some, None, drop, sym, ap, ◌∙◌, ⊎_elim, arith}
use Rattle.std.specs.Prelude.{slice_get, Contains, IfSome}
use Rattle.std.proofs.lemmas.Option.{slice_get_within, get_or_from_slice_get, slice_get_cases}
use Rattle.std.proofs.lemmas.List.{drop_more, drop_all}
use Rattle.sim_model.specs.FlatDesign.Code.{Arena, block_at}
use Rattle.kernel_bodies.specs.Depths.{IsDeep, depth_of}
use Rattle.kernel_bodies.specs.declared.around.Cursor.{Cursor}
use Rattle.kernel_bodies.specs.declared.layers.Open.TheVariants as layer
use Rattle.kernel_bodies.specs.Layers.{rest_if}
use Rattle.kernel_bodies.specs.Room.{Fits, FitsLayer}

pub rest_some : (xs : List ℕ) (i x : ℕ) → slice_get xs i ≡ Some x → drop i xs ≡ x ∷ drop (i + 1) xs
rest_some xs i x e = drop_more xs i x (slice_get_within xs i x e) ∙ ap (λ y. y ∷ drop (i + 1) xs) (get_or_from_slice_get xs i x x e)

pub rest_none : (xs : List ℕ) (i : ℕ) → slice_get xs i ≡ None → drop i xs ≡ []
rest_none xs i e = ⊎_elim (λ (w : _). absurd (differ w.0 (sym w.2 ∙ e))) (λ (w : _). drop_all i xs w.0) (slice_get_cases xs i).1
  where
    differ : (x : ℕ) → Some x ≡ None → ⊥
    differ x e = cc

pub contains_at : (xs : List ℕ) (i x : ℕ) → slice_get xs i ≡ Some x → Contains xs x
contains_at xs i x e = (i, slice_get_within xs i x e, get_or_from_slice_get xs i x x e)

module _ (a : Arena) (depths : List ℕ) (deep : IsDeep a depths) (most t i : ℕ) where
  pub in_block_fits : (c d : Cursor) (s : ℕ) → d.block ≡ c.block → Contains (block_at a c.block) s → FitsLayer a depths most t i (layer.Rest c) → Fits a depths most t i (layer.Rest d ∷ []) (Some s)
  in_block_fits c d s e there h =
      let same : depth_of depths d.block ≡ depth_of depths c.block = ap (depth_of depths) e in
      ((omega (arith, h, same), tt), (omega (arith, h), λ j q. omega (arith, h, deep c.block s j there q)))

  pub rest_fits : (c d : Cursor) (o : Option Cursor) (s : ℕ) → IfSome o (λ f. f ≡ d) → d.block ≡ c.block → Contains (block_at a c.block) s → FitsLayer a depths most t i (layer.Rest c) → Fits a depths most t i (rest_if o) (Some s)
  rest_fits c d None s same e there h = (tt, (omega (arith, h), λ j q. omega (arith, h, deep c.block s j there q)))
  rest_fits c d (Some f) s same e there h = in_block_fits c f s (ap (λ (x : Cursor). x.block) same ∙ e) there h

  pub again_fits : (s : ℕ) → FitsLayer a depths most t i (layer.Again s) → Fits a depths most t i [] (Some s)
  again_fits s h = (tt, (omega (arith, h.0), λ j q. omega (arith, h.1 j q)))

  pub in_unwind_fits : (u : ℕ) (d : Cursor) (s : ℕ) → d.block ≡ u → Contains (block_at a u) s → FitsLayer a depths most t i (layer.Owed u) → Fits a depths most t i (layer.Run ∷ layer.Rest d ∷ []) (Some s)
  in_unwind_fits u d s e there h =
      let same : depth_of depths d.block ≡ depth_of depths u = ap (depth_of depths) e in
      ((omega (arith, h), (omega (arith, h, same), tt)), (omega (arith, h), λ j q. omega (arith, h, deep u s j there q)))
