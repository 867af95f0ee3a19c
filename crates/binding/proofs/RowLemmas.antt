-- What stands in rows after one of them is put in place of another.
use Rattle.std.proofs.Common.{◌≡◌, ◌≢◌, ◌<◌, ◌+◌, ℕ, zero, suc, Bool, true, false, cond, List, [], ◌∷◌, ◌++◌, length, take, get_or, replicate, refl, sym, ap, ◌∙◌, subst, inl, inr, arith, eq-eqb}
use Rattle.std.specs.Prelude.{◌==◌, slice_set, filter}
use Rattle.std.proofs.lemmas.Bool.{cases_eq}
use Rattle.std.proofs.lemmas.Bool.Decides.{nat_tests}
use Rattle.std.proofs.lemmas.List.{append-nil, get_or-set_same, get_or-set_other}
use Rattle.std.proofs.lemmas.List.Elements.{filter_more}
use Rattle.std.proofs.lemmas.Option.{unwrap_or-slice_get}
use Rattle.binding.specs.Rows.{row_at, AreRows}

module _ {A : Type 0} where
  pub row_same : (rows : List (List A)) (j : ℕ) (r : List A) → j < length rows → row_at (slice_set rows j r) j ≡ r
  row_same rows j r below = unwrap_or-slice_get (slice_set rows j r) j [] ∙ get_or-set_same rows j r [] below

  pub row_other : (rows : List (List A)) (j i : ℕ) (r : List A) → i ≢ j → row_at (slice_set rows j r) i ≡ row_at rows i
  row_other rows j i r ne = unwrap_or-slice_get (slice_set rows j r) i [] ∙ get_or-set_other rows j i r [] ne ∙ sym (unwrap_or-slice_get rows i [])

  pub row_empty : (n i : ℕ) → row_at {A = A} (replicate n []) i ≡ []
  row_empty zero i = refl
  row_empty (suc n) zero = refl
  row_empty (suc n) (suc i) = row_empty n i

  last : (p : A → Bool) (xs : List A) (k : ℕ) (x : A) → x ≡ get_or xs k x → cond (p (get_or xs k x)) (get_or xs k x ∷ []) [] ≡ cond (p x) (x ∷ []) []
  last p xs k x is = ap (λ y. cond (p y) (y ∷ []) []) (sym is)

  -- one more item goes under its own number
  module _ (key : A → ℕ) (rows : List (List A)) (xs : List A) (k : ℕ) (x : A) (below : k < length xs) (is : x ≡ get_or xs k x) (within : key x < length rows)
      (h : AreRows (λ i. filter (λ y. key y == i) (take k xs)) rows) where
    after : List (List A)
    after = slice_set rows (key x) (row_at rows (key x) ++ x ∷ [])

    more : (i : ℕ) (b : Bool) → (key x == i) ≡ b → filter (λ y. key y == i) (take (k + 1) xs) ≡ filter (λ y. key y == i) (take k xs) ++ cond b (x ∷ []) []
    more i b e =
        filter_more (λ y. key y == i) xs k x below
        ∙ ap (λ r. filter (λ y. key y == i) (take k xs) ++ r) (last (λ y. key y == i) xs k x is ∙ ap (λ c. cond c (x ∷ []) []) e)

    at_own : row_at after (key x) ≡ filter (λ y. key y == key x) (take (k + 1) xs)
    unfolding after
    at_own =
        row_same rows (key x) (row_at rows (key x) ++ x ∷ []) within ∙ ap (λ r. r ++ x ∷ []) (h (key x))
        ∙ sym (more (key x) true (eq-eqb (key x) (key x) refl))

    at_other : (i : ℕ) → (i ≡ key x → ⊥) → row_at after i ≡ filter (λ y. key y == i) (take (k + 1) xs)
    unfolding after
    at_other i other =
        let no : (key x == i) ≡ false = grind (arith, nat_tests) in
        row_other rows (key x) i (row_at rows (key x) ++ x ∷ []) other ∙ h i
        ∙ sym (append-nil (filter (λ y. key y == i) (take k xs))) ∙ sym (more i false no)

    pub row_added : AreRows (λ i. filter (λ y. key y == i) (take (k + 1) xs)) (slice_set rows (key x) (row_at rows (key x) ++ x ∷ []))
    unfolding after
    row_added i =
        elim (cases_eq i (key x)) [
          | inl same ↦ subst (λ j. row_at after j ≡ filter (λ y. key y == j) (take (k + 1) xs)) (sym same) at_own
          | inr other ↦ at_other i other
        ]
