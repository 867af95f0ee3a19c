-- Lists, read by place.
use Rattle.std.proofs.Common.{◌≡◌, ◌≢◌, ℕ, zero, suc, List, [], ◌∷◌, ◌++◌, length, set, Option, Some, None, refl, ap}
use Rattle.std.specs.Prelude.{slice_get, option_map}
use Rattle.sim_model.specs.Configuration.{changed_at, change}

module _ {X : Type 0} where
  pub get-set_same : (xs : List X) (i : ℕ) (x y : X) → slice_get xs i ≡ Some x → slice_get (set xs i y) i ≡ Some y
  get-set_same [] i x y here = cc
  get-set_same (z ∷ xs) zero x y here = refl
  get-set_same (z ∷ xs) (suc i) x y here = get-set_same xs i x y here

  pub get-set_past : (xs : List X) (i : ℕ) (y : X) → slice_get xs i ≡ None → slice_get (set xs i y) i ≡ None
  get-set_past [] i y past = refl
  get-set_past (z ∷ xs) zero y past = cc
  get-set_past (z ∷ xs) (suc i) y past = get-set_past xs i y past

  pub get-set_other : (xs : List X) (i j : ℕ) (y : X) → j ≢ i → slice_get (set xs i y) j ≡ slice_get xs j
  get-set_other [] i j y apart = refl
  get-set_other (z ∷ xs) zero zero y apart = absurd (apart refl)
  get-set_other (z ∷ xs) zero (suc j) y apart = refl
  get-set_other (z ∷ xs) (suc i) zero y apart = refl
  get-set_other (z ∷ xs) (suc i) (suc j) y apart = get-set_other xs i j y (λ e. apart (ap suc e))

  pub length-set : (xs : List X) (i : ℕ) (y : X) → length (set xs i y) ≡ length xs
  length-set [] i y = refl
  length-set (z ∷ xs) zero y = refl
  length-set (z ∷ xs) (suc i) y = ap suc (length-set xs i y)

  pub get-push_last : (xs : List X) (y : X) → slice_get (xs ++ y ∷ []) (length xs) ≡ Some y
  get-push_last [] y = refl
  get-push_last (z ∷ xs) y = get-push_last xs y

  pub get-push_other : (xs : List X) (y : X) (j : ℕ) → j ≢ length xs → slice_get (xs ++ y ∷ []) j ≡ slice_get xs j
  get-push_other [] y zero apart = absurd (apart refl)
  get-push_other [] y (suc j) apart = refl
  get-push_other (z ∷ xs) y zero apart = refl
  get-push_other (z ∷ xs) y (suc j) apart = get-push_other xs y j (λ e. apart (ap suc e))

  -- one element changed
  changed-here : (xs : List X) (p : ℕ) (f : X → X) (o : Option X) → slice_get xs p ≡ o → slice_get (changed_at xs p f o) p ≡ option_map f o
  changed-here xs p f None at = at
  changed-here xs p f (Some x) at = get-set_same xs p x (f x) at

  changed-other : (xs : List X) (p q : ℕ) (f : X → X) (o : Option X) → q ≢ p → slice_get (changed_at xs p f o) q ≡ slice_get xs q
  changed-other xs p q f None apart = refl
  changed-other xs p q f (Some x) apart = get-set_other xs p q (f x) apart

  pub change-here : (xs : List X) (p : ℕ) (f : X → X) → slice_get (change xs p f) p ≡ option_map f (slice_get xs p)
  change-here xs p f = changed-here xs p f (slice_get xs p) refl

  pub change-other : (xs : List X) (p q : ℕ) (f : X → X) → q ≢ p → slice_get (change xs p f) q ≡ slice_get xs q
  change-other xs p q f apart = changed-other xs p q f (slice_get xs p) apart
