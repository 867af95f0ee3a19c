-- Lists by number in which one element is changed.
use Rattle.std.proofs.Common.{◌≡◌, ◌≢◌, ℕ, zero, suc, List, [], ◌∷◌, slice_get, slice_set, Option, Some, None, refl, ap, ◌∙◌}
use Rattle.std.proofs.lemmas.Option.{none-some}
use Rattle.sim_model.specs.Configuration.{change, changed_at}

set_here : {A : Type 0} (xs : List A) (n : ℕ) (x y : A) → slice_get xs n ≡ Some x → slice_get (slice_set xs n y) n ≡ Some y
set_here [] n x y at = absurd (none-some x at)
set_here (z ∷ xs) zero x y at = refl
set_here (z ∷ xs) (suc n) x y at = set_here xs n x y at

pub change-at : {A : Type 0} (xs : List A) (n : ℕ) (f : A → A) (x : A) → slice_get xs n ≡ Some x → slice_get (change xs n f) n ≡ Some (f x)
change-at xs n f x at = ap (λ o. slice_get (changed_at xs n f o) n) at ∙ set_here xs n x (f x) at

set_apart : {A : Type 0} (xs : List A) (n m : ℕ) (y : A) → m ≢ n → slice_get (slice_set xs n y) m ≡ slice_get xs m
set_apart [] n m y apart = refl
set_apart (z ∷ xs) zero zero y apart = absurd (apart refl)
set_apart (z ∷ xs) zero (suc m) y apart = refl
set_apart (z ∷ xs) (suc n) zero y apart = refl
set_apart (z ∷ xs) (suc n) (suc m) y apart = set_apart xs n m y (λ same. apart (ap suc same))

changed_apart : {A : Type 0} (xs : List A) (n m : ℕ) (f : A → A) (o : Option A) → m ≢ n → slice_get (changed_at xs n f o) m ≡ slice_get xs m
changed_apart xs n m f None apart = refl
changed_apart xs n m f (Some x) apart = set_apart xs n m (f x) apart

pub change-apart : {A : Type 0} (xs : List A) (n m : ℕ) (f : A → A) → m ≢ n → slice_get (change xs n f) m ≡ slice_get xs m
change-apart xs n m f apart = changed_apart xs n m f (slice_get xs n) apart
