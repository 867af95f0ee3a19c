-- Lists, read by place.
use Rattle.std.proofs.Common.{◌≡◌, ℕ, zero, suc, ◌≢◌, List, [], ◌∷◌, ◌++◌, length, set, Some, refl, ap}
use Rattle.std.specs.Prelude.{slice_get}

module _ {X : Type 0} where
  pub slice_get-set_same : (xs : List X) (i : ℕ) (x y : X) → slice_get xs i ≡ Some x → slice_get (set xs i y) i ≡ Some y
  slice_get-set_same [] i x y here = cc
  slice_get-set_same (z ∷ xs) zero x y here = refl
  slice_get-set_same (z ∷ xs) (suc i) x y here = slice_get-set_same xs i x y here

  pub slice_get-set_other : (xs : List X) (i j : ℕ) (y : X) → j ≢ i → slice_get (set xs i y) j ≡ slice_get xs j
  slice_get-set_other [] i j y apart = refl
  slice_get-set_other (z ∷ xs) zero zero y apart = absurd (apart refl)
  slice_get-set_other (z ∷ xs) zero (suc j) y apart = refl
  slice_get-set_other (z ∷ xs) (suc i) zero y apart = refl
  slice_get-set_other (z ∷ xs) (suc i) (suc j) y apart = slice_get-set_other xs i j y (λ e. apart (ap suc e))

  pub slice_get-push_last : (xs : List X) (y : X) → slice_get (xs ++ y ∷ []) (length xs) ≡ Some y
  slice_get-push_last [] y = refl
  slice_get-push_last (z ∷ xs) y = slice_get-push_last xs y

  pub slice_get-push_other : (xs : List X) (y : X) (j : ℕ) → j ≢ length xs → slice_get (xs ++ y ∷ []) j ≡ slice_get xs j
  slice_get-push_other [] y zero apart = absurd (apart refl)
  slice_get-push_other [] y (suc j) apart = refl
  slice_get-push_other (z ∷ xs) y zero apart = refl
  slice_get-push_other (z ∷ xs) y (suc j) apart = slice_get-push_other xs y j (λ e. apart (ap suc e))
