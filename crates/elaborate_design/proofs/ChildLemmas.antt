-- Objects by their instance and name.
use Rattle.std.proofs.Common.{◌≡◌, ◌<◌, ◌≤◌, ◌⊎◌, ℕ, zero, suc, ◌+◌, Bool, true, false, cond, List, [], ◌∷◌, drop, length, Some, None, inl, inr, refl, sym, ap, ◌∙◌, arith}
use Rattle.std.specs.Prelude.{◌==◌, nat_lt, slice_get, unwrap_or}
use Rattle.std.specs.List.{position_from, position_or_len}
use Rattle.std.proofs.lemmas.Bool.Decides.{nat_tests}
use Rattle.std.proofs.lemmas.List.Sums.{prefix_len-le-length}
use Rattle.elaborate_objects.specs.FlatDesign.declared.objects.Object.{Object}
use Rattle.elaborate_objects.specs.DesignRules.Listing.{is_child, child}
use Rattle.elaborate_objects.specs.Parents.{AreInside}
use Rattle.elaborate_design.specs.Children.{child_in}

-- past the objects there is no instance

in_range : {X : Type 0} (xs : List X) (i : ℕ) (x : X) → slice_get xs i ≡ Some x → i < length xs
in_range [] i x h = cc
in_range (y ∷ xs) zero x h = omega arith
in_range (y ∷ xs) (suc i) x h = let rest = in_range xs i x h in omega (arith, rest)

module _ (instance : ℕ) (name : List ℕ) where
  not_one : (k : ℕ) (xs : List Object) → ((i : ℕ) (o : Object) → slice_get xs i ≡ Some o → o.parent < instance) → position_from (is_child instance name) k xs ≡ None
  not_one k [] h = refl
  not_one k (x ∷ xs) h =
      let below = h 0 x refl in
      let differs : (x.parent == instance) ≡ false = grind (arith, nat_tests, below) in
      rw differs (not_one (k + 1) xs (λ i o at. h (suc i) o at))

  below_all : (x : Object) (xs : List Object) → AreInside (x ∷ xs) → length (x ∷ xs) ≤ instance → (i : ℕ) (o : Object) → slice_get xs i ≡ Some o → o.parent < instance
  below_all x xs inside past i o at = by (inside (suc i) o at)
    where
      by : (o.parent < suc i) ⊎ ((suc i ≡ 0) × (o.parent ≡ 0)) → o.parent < instance
      by (inl lt) = let within = in_range xs i o at in omega (arith, lt, within, past)
      by (inr top) = let e = top.0 in omega (arith, e)

  pub none_past : (os : List Object) → AreInside os → length os ≤ instance → None ≡ child_in os instance name
  none_past [] inside past = refl
  none_past (x ∷ xs) inside past = sym (not_one 1 xs (below_all x xs inside past))

-- the number of an object that is found; else the number behind all objects

lt_more : (m n : ℕ) → nat_lt (1 + m) (suc n) ≡ nat_lt m n
lt_more m n = grind (arith, nat_tests)

lt_first : (n : ℕ) → nat_lt 0 (suc n) ≡ true
lt_first n = grind (arith, nat_tests)

some_more : (b : Bool) (k p : ℕ) → cond b (Some ((k + 1) + p)) None ≡ cond b (Some (k + (1 + p))) None
some_more true k p = ap Some (omega arith)
some_more false k p = refl

some_here : (k : ℕ) → Some k ≡ Some (k + 0)
some_here k = ap Some (omega arith)

module _ {X : Type 0} (t : X → Bool) where
  by_first : (b : Bool) (x : X) (xs : List X) (k : ℕ) → t x ≡ b → position_from t (k + 1) xs ≡ cond (nat_lt (position_or_len t xs) (length xs)) (Some ((k + 1) + position_or_len t xs)) None
      → position_from t k (x ∷ xs) ≡ cond (nat_lt (position_or_len t (x ∷ xs)) (length (x ∷ xs))) (Some (k + position_or_len t (x ∷ xs))) None
  by_first true x xs k e h = rw e (some_here k ∙ ap (λ b. cond b (Some (k + 0)) None) (sym (lt_first (length xs))))
  by_first false x xs k e h =
      rw e (h ∙ some_more (nat_lt (position_or_len t xs) (length xs)) k (position_or_len t xs)
      ∙ ap (λ b. cond b (Some (k + (1 + position_or_len t xs))) None) (sym (lt_more (position_or_len t xs) (length xs))))

  from_place : (k : ℕ) (xs : List X) → position_from t k xs ≡ cond (nat_lt (position_or_len t xs) (length xs)) (Some (k + position_or_len t xs)) None
  from_place k [] = refl
  from_place k (x ∷ xs) = by_first (t x) x xs k refl (from_place (k + 1) xs)

  or_behind : (b : Bool) (xs : List X) → nat_lt (position_or_len t xs) (length xs) ≡ b → unwrap_or (cond b (Some (1 + position_or_len t xs)) None) (1 + length xs) ≡ 1 + position_or_len t xs
  or_behind true xs e = refl
  or_behind false xs e =
      let most : position_or_len t xs ≤ length xs = prefix_len-le-length _ xs in
      grind (arith, nat_tests, e, most)

pub child_number : (os : List Object) (instance : ℕ) (name : List ℕ) → 0 < length os → unwrap_or (child_in os instance name) (length os) ≡ child (drop 1 os) instance name
child_number [] instance name some = omega (arith, some)
child_number (x ∷ xs) instance name some =
    let t = is_child instance name in
    let e : suc (length xs) ≡ 1 + length xs = omega arith in
    ap (λ o. unwrap_or o (suc (length xs))) (from_place t 1 xs)
    ∙ ap (unwrap_or (cond (nat_lt (position_or_len t xs) (length xs)) (Some (1 + position_or_len t xs)) None)) e
    ∙ or_behind t (nat_lt (position_or_len t xs) (length xs)) xs refl
