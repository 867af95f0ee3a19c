-- Lists by number in which one element is changed, and lists with one more.
use Rattle.std.proofs.Common.{◌≡◌, ◌≢◌, ℕ, zero, suc, List, [], ◌∷◌, ◌++◌, length, slice_get, slice_set, Option, Some, None, refl, ap, ◌∙◌}
use Rattle.std.proofs.lemmas.Option.{none-some}
use Rattle.sim_model.specs.Configuration.{change, changed_at}

pub set-here : {A : Type 0} (xs : List A) (n : ℕ) (x y : A) → slice_get xs n ≡ Some x → slice_get (slice_set xs n y) n ≡ Some y
set-here [] n x y at = absurd (none-some x at)
set-here (z ∷ xs) zero x y at = refl
set-here (z ∷ xs) (suc n) x y at = set-here xs n x y at

pub set-other : {A : Type 0} (xs : List A) (n m : ℕ) (y : A) → m ≢ n → slice_get (slice_set xs n y) m ≡ slice_get xs m
set-other [] n m y apart = refl
set-other (z ∷ xs) zero zero y apart = absurd (apart refl)
set-other (z ∷ xs) zero (suc m) y apart = refl
set-other (z ∷ xs) (suc n) zero y apart = refl
set-other (z ∷ xs) (suc n) (suc m) y apart = set-other xs n m y (λ same. apart (ap suc same))

pub change-here : {A : Type 0} (xs : List A) (n : ℕ) (f : A → A) (x : A) → slice_get xs n ≡ Some x → slice_get (change xs n f) n ≡ Some (f x)
change-here xs n f x at = ap (λ o. slice_get (changed_at xs n f o) n) at ∙ set-here xs n x (f x) at

changed-other : {A : Type 0} (xs : List A) (n m : ℕ) (f : A → A) (o : Option A) → m ≢ n → slice_get (changed_at xs n f o) m ≡ slice_get xs m
changed-other xs n m f None apart = refl
changed-other xs n m f (Some x) apart = set-other xs n m (f x) apart

pub change-other : {A : Type 0} (xs : List A) (n m : ℕ) (f : A → A) → m ≢ n → slice_get (change xs n f) m ≡ slice_get xs m
change-other xs n m f apart = changed-other xs n m f (slice_get xs n) apart

pub change-none : {A : Type 0} (xs : List A) (n : ℕ) (f : A → A) → slice_get xs n ≡ None → change xs n f ≡ xs
change-none xs n f at = ap (changed_at xs n f) at

-- one more at the end
pub last-here : {A : Type 0} (xs : List A) (x : A) → slice_get (xs ++ x ∷ []) (length xs) ≡ Some x
last-here [] x = refl
last-here (z ∷ xs) x = ap (λ n. slice_get (z ∷ xs ++ x ∷ []) n) (length-cons z xs) ∙ last-here xs x
  where
    length-cons : {A : Type 0} (z : A) (xs : List A) → length (z ∷ xs) ≡ suc (length xs)
    length-cons z xs = refl

pub last-other : {A : Type 0} (xs : List A) (x : A) (m : ℕ) → m ≢ length xs → slice_get (xs ++ x ∷ []) m ≡ slice_get xs m
last-other [] x zero apart = absurd (apart refl)
last-other [] x (suc m) apart = refl
last-other (z ∷ xs) x zero apart = refl
last-other (z ∷ xs) x (suc m) apart = last-other xs x m (λ same. apart (ap suc same))

pub past-end : {A : Type 0} (xs : List A) → slice_get xs (length xs) ≡ None
past-end [] = refl
past-end (x ∷ xs) = past-end xs
