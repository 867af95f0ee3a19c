-- The room of layers one after another.
use Rattle.std.proofs.Common.{◌≡◌, ℕ, ◌+◌, ◌<◌, ◌≤◌, zero, suc, List, [], ◌∷◌, ◌++◌, Option, Some, None, length, take, drop, get_or, refl, sym, subst, arith, length-append}
use Rattle.std.proofs.lemmas.List.{take-append-drop}
use Rattle.sim_model.specs.FlatDesign.Code.{Arena}
use Rattle.kernel_bodies.specs.declared.layers.Saved.{Saved}
use Rattle.kernel_bodies.specs.declared.layers.Open.{Open}
use Rattle.kernel_bodies.specs.declared.layers.Open.TheVariants as layer
use Rattle.kernel_bodies.specs.Room.{FitsStatement, FitsLayer, FitsAll, Fits, FitsIn, EachFitsIn, FitsLast, FitsFrames, kept_inside, kept_along}

pub kept_append : (t : ℕ) (ls ms : List Open) → kept_along t (ls ++ ms) ≡ kept_along (kept_along t ls) ms
kept_append t [] ms = refl
kept_append t (l ∷ ls) ms = kept_append (kept_inside t l) ls ms

kept_less : (t : ℕ) (l : Open) → kept_inside t l ≤ t
kept_less t (layer.Rest c) = omega arith
kept_less t (layer.Again s) = omega arith
kept_less t (layer.Owed u) = omega arith
kept_less t (layer.Guard u) = omega arith
kept_less t (layer.Try s) = omega arith
kept_less t layer.Run = omega arith
kept_less t (layer.Goal k) = omega arith

pub kept_small : (t : ℕ) (ls : List Open) → kept_along t ls ≤ t
kept_small t [] = omega arith
kept_small t (l ∷ ls) = omega (arith, kept_less t l, kept_small (kept_inside t l) ls)

module _ (a : Arena) (depths : List ℕ) (most : ℕ) where
  all_at : (t i j : ℕ) (ls : List Open) → i ≡ j → FitsAll a depths most t i ls → FitsAll a depths most t j ls
  all_at t i j ls e h = let P : ℕ → Type 0 = λ n. FitsAll a depths most t n ls in subst P e h

  pub all_split : (t i : ℕ) (ls ms : List Open) → FitsAll a depths most t i (ls ++ ms) → FitsAll a depths most t i ls × FitsAll a depths most (kept_along t ls) (i + length ls) ms
  all_split t i [] ms h = (tt, all_at t i (i + 0) ms (omega arith) h)
  all_split t i (l ∷ ls) ms h =
      let w = all_split (kept_inside t l) (i + 1) ls ms h.1 in
      ((h.0, w.0), all_at (kept_along (kept_inside t l) ls) (i + 1 + length ls) (i + length (l ∷ ls)) ms (omega arith) w.1)

  pub all_join : (t i : ℕ) (ls ms : List Open) → FitsAll a depths most t i ls → FitsAll a depths most (kept_along t ls) (i + length ls) ms → FitsAll a depths most t i (ls ++ ms)
  all_join t i [] ms h k = all_at t (i + 0) i ms (omega arith) k
  all_join t i (l ∷ ls) ms h k = (h.0, all_join (kept_inside t l) (i + 1) ls ms h.1 (all_at (kept_along (kept_inside t l) ls) (i + length (l ∷ ls)) (i + 1 + length ls) ms (omega arith) k))

  pub leaf_at : (i j : ℕ) (s : Option ℕ) → i ≡ j → FitsStatement a depths most i s → FitsStatement a depths most j s
  leaf_at i j s e h = let P : ℕ → Type 0 = λ n. FitsStatement a depths most n s in subst P e h

  pub nothing_fits : (i : ℕ) (s : Option ℕ) → FitsStatement a depths most i s → i ≤ most
  nothing_fits i None h = h
  nothing_fits i (Some s) h = h.0

  -- a layer takes a place
  pub layer_place : (t i : ℕ) (l : Open) → FitsLayer a depths most t i l → i + 1 ≤ most
  layer_place t i (layer.Rest c) h = omega (arith, h)
  layer_place t i (layer.Again s) h = omega (arith, h.0)
  layer_place t i (layer.Owed u) h = omega (arith, h)
  layer_place t i (layer.Guard u) h = omega (arith, h)
  layer_place t i (layer.Try s) h = omega (arith, h.0)
  layer_place t i layer.Run h = omega (arith, h)
  layer_place t i (layer.Goal k) h = h

  -- one layer less, with nothing left inside the others
  pub fits_less : (ls : List Open) (l : Open) (s : Option ℕ) → Fits a depths most 1 0 (ls ++ l ∷ []) s → Fits a depths most 1 0 ls None × FitsLayer a depths most (kept_along 1 ls) (length ls) l
  fits_less ls l s h =
      let w = all_split 1 0 ls (l ∷ []) h.0 in
      let P : ℕ → Type 0 = λ n. FitsLayer a depths most (kept_along 1 ls) n l in
      let e : 0 + length ls ≡ length ls = omega arith in
      let f = subst P e w.1.0 in
      ((w.0, omega (arith, layer_place (kept_along 1 ls) (length ls) l f, kept_small 1 ls)), f)

  -- more layers inside
  pub fits_more : (ls ms : List Open) (s : Option ℕ) → FitsAll a depths most 1 0 ls → Fits a depths most (kept_along 1 ls) (length ls) ms s → Fits a depths most 1 0 (ls ++ ms) s
  fits_more ls ms s h k =
      (all_join 1 0 ls ms h (all_at (kept_along 1 ls) (length ls) (0 + length ls) ms (omega arith) k.0), leaf_at (length ls + length ms + kept_along (kept_along 1 ls) ms) (0 + length (ls ++ ms) + kept_along 1 (ls ++ ms)) s (omega (arith, length-append ls ms, kept_append 1 ls ms)) k.1)

-- more room is enough room
module _ (a : Arena) (depths : List ℕ) (most more : ℕ) (le : most ≤ more) where
  statement_wider : (i : ℕ) (s : Option ℕ) → FitsStatement a depths most i s → FitsStatement a depths more i s
  statement_wider i None h = omega (arith, h, le)
  statement_wider i (Some s) h = (omega (arith, h.0, le), λ j q. omega (arith, h.1 j q, le))

  layer_wider : (t i : ℕ) (l : Open) → FitsLayer a depths most t i l → FitsLayer a depths more t i l
  layer_wider t i (layer.Rest c) h = omega (arith, h, le)
  layer_wider t i (layer.Again s) h = (omega (arith, h.0, le), λ j q. omega (arith, h.1 j q, le))
  layer_wider t i (layer.Owed u) h = omega (arith, h, le)
  layer_wider t i (layer.Guard u) h = omega (arith, h, le)
  layer_wider t i (layer.Try s) h = (omega (arith, h.0, le), λ j q. omega (arith, h.1 j q, le))
  layer_wider t i layer.Run h = omega (arith, h, le)
  layer_wider t i (layer.Goal k) h = omega (arith, h, le)

  all_wider : (t i : ℕ) (ls : List Open) → FitsAll a depths most t i ls → FitsAll a depths more t i ls
  all_wider t i [] h = tt
  all_wider t i (l ∷ ls) h = (layer_wider t i l h.0, all_wider (kept_inside t l) (i + 1) ls h.1)

  pub fits_wider : (t i : ℕ) (ls : List Open) (s : Option ℕ) → Fits a depths most t i ls s → Fits a depths more t i ls s
  fits_wider t i ls s h = (all_wider t i ls h.0, statement_wider (i + length ls + kept_along t ls) s h.1)

pub fits_at_cap : (a : Arena) (depths : List ℕ) (most more : ℕ) (ls ms : List Open) (s p : Option ℕ) → most ≤ more → ms ≡ ls → p ≡ s → Fits a depths most 1 0 ls s → Fits a depths more 1 0 ms p
fits_at_cap a depths most more ls ms s p le same e h =
    let P : List Open → Type 0 = λ ns. Fits a depths more 1 0 ns p in
    let Q : Option ℕ → Type 0 = λ o. Fits a depths more 1 0 ls o in
    subst P (sym same) (subst Q (sym e) (fits_wider a depths most more le 1 0 ls s h))

pub fits_none : (a : Arena) (depths : List ℕ) (most : ℕ) (ls : List Open) (s : Option ℕ) → Fits a depths most 1 0 ls s → Fits a depths most 1 0 ls None
fits_none a depths most ls s h = (h.0, nothing_fits a depths most (0 + length ls + kept_along 1 ls) s h.1)

-- as many blocks as there is room for
pub fits_length : (a : Arena) (depths : List ℕ) (most : ℕ) (ls : List Open) (s : Option ℕ) → Fits a depths most 1 0 ls s → length ls + kept_along 1 ls ≤ most
fits_length a depths most ls s h = omega (arith, nothing_fits a depths most (0 + length ls + kept_along 1 ls) s h.1)

-- the outermost blocks alone

front_one : (t : ℕ) (l : Open) (ms : List Open) → t ≤ 1 → t ≤ length ms + kept_along t ms → t ≤ length (l ∷ ms) + kept_along (kept_inside t l) ms
front_one t (layer.Rest c) ms few h = omega (arith, h)
front_one t (layer.Again s) ms few h = omega (arith, h)
front_one t (layer.Owed u) ms few h = omega (arith, h)
front_one t (layer.Guard u) ms few h = omega (arith, h)
front_one t (layer.Try s) ms few h = omega (arith, h)
front_one t layer.Run ms few h = omega (arith, h)
front_one t (layer.Goal k) ms few h = omega (arith, few)

front_place : (t : ℕ) (ms : List Open) → t ≤ 1 → t ≤ length ms + kept_along t ms
front_place t [] few = omega arith
front_place t (l ∷ ms) few = front_one t l ms few (front_place t ms few)

along_front : (t : ℕ) (ls ms : List Open) → t ≤ 1 → length ls + kept_along t ls ≤ length (ls ++ ms) + kept_along t (ls ++ ms)
along_front t [] ms few = omega (arith, front_place t ms few)
along_front t (l ∷ ls) ms few = omega (arith, along_front (kept_inside t l) ls ms (omega (arith, few, kept_less t l)))

pub fits_front : (a : Arena) (depths : List ℕ) (most : ℕ) (ls ms : List Open) (o : Option ℕ) → Fits a depths most 1 0 (ls ++ ms) o → Fits a depths most 1 0 ls None
fits_front a depths most ls ms o h =
    ((all_split a depths most 1 0 ls ms h.0).0, omega (arith, nothing_fits a depths most (0 + length (ls ++ ms) + kept_along 1 (ls ++ ms)) o h.1, along_front 1 ls ms (omega arith)))

pub fits_take : (a : Arena) (depths : List ℕ) (most n : ℕ) (ls : List Open) (o : Option ℕ) → Fits a depths most 1 0 ls o → Fits a depths most 1 0 (take n ls) None
fits_take a depths most n ls o h =
    let P : List Open → Type 0 = λ ms. Fits a depths most 1 0 ms o in
    fits_front a depths most (take n ls) (drop n ls) o (subst P (sym (take-append-drop n ls)) h)

-- frames

pub each_at : (a : Arena) (depths : List ℕ) (xs : List Saved) (i : ℕ) (d : Saved) → i < length xs → EachFitsIn a depths xs → FitsIn a depths (get_or xs i d) None
each_at a depths [] i d h f = absurd (omega (arith, h))
each_at a depths (x ∷ xs) zero d h f = f.0
each_at a depths (x ∷ xs) (suc i) d h f = each_at a depths xs i d (omega (arith, h)) f.1

pub last_at_end : (a : Arena) (depths : List ℕ) (xs : List Saved) (s : Option ℕ) (i : ℕ) (d : Saved) → suc i ≡ length xs → FitsLast a depths xs s → FitsIn a depths (get_or xs i d) s
last_at_end a depths [] s i d e f = absurd (omega (arith, e))
last_at_end a depths (x ∷ []) s zero d e f = f
last_at_end a depths (x ∷ []) s (suc i) d e f = absurd (omega (arith, e))
last_at_end a depths (x ∷ y ∷ ys) s zero d e f = absurd (omega (arith, e))
last_at_end a depths (x ∷ y ∷ ys) s (suc i) d e f = last_at_end a depths (y ∷ ys) s i d (omega (arith, e)) f

pub fits_last : (a : Arena) (depths : List ℕ) (xs : List Saved) (s : Option ℕ) (i : ℕ) (x : Saved) → suc i ≡ length xs → x ≡ get_or xs i x → FitsFrames a depths xs s → FitsIn a depths x s
fits_last a depths xs s i x e is f = let P : Saved → Type 0 = λ y. FitsIn a depths y s in subst P (sym is) (last_at_end a depths xs s i x e f.last)

pub fits_there : (a : Arena) (depths : List ℕ) (xs : List Saved) (s : Option ℕ) (i : ℕ) (x : Saved) → i < length xs → x ≡ get_or xs i x → FitsFrames a depths xs s → FitsIn a depths x None
fits_there a depths xs s i x h is f = let P : Saved → Type 0 = λ y. FitsIn a depths y None in subst P (sym is) (each_at a depths xs i x h f.each)
