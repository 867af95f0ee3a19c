-- Lists in which one element is changed, by what a view shows of their elements.
use Rattle.std.proofs.Common.{◌≡◌, ◌≢◌, ◌==◌, ◌||◌, not, cond, ℕ, zero, suc, Bool, true, false, List, [], ◌∷◌, slice_get, slice_set, Option, Some, None, option_map, refl, sym, ap, ◌∙◌, eqb-true, ne_eqb}
use Rattle.std.proofs.lemmas.Option.{none-some, same_Some}
use Rattle.sim_model.specs.Configuration.{change, changed_at}
use Rattle.sim_model.specs.Waits.{holds, without}
use Rattle.laws_order.specs.Sees.{AlikeAt}

-- what stands at m once the element at n is changed, by what stood there
abbrev pub seen_changed : {A : Type 0} → ℕ → ℕ → (A → A) → Option A → Option A
seen_changed zero zero g o = option_map g o
seen_changed zero (suc m) g o = o
seen_changed (suc n) zero g o = o
seen_changed (suc n) (suc m) g o = seen_changed n m g o

none_changed : {A : Type 0} (n m : ℕ) (g : A → A) → seen_changed n m g None ≡ None
none_changed zero zero g = refl
none_changed zero (suc m) g = refl
none_changed (suc n) zero g = refl
none_changed (suc n) (suc m) g = none_changed n m g

pub seen-apart : {A : Type 0} (n m : ℕ) (g : A → A) (o : Option A) → m ≢ n → seen_changed n m g o ≡ o
seen-apart zero zero g o apart = absurd (apart refl)
seen-apart zero (suc m) g o apart = refl
seen-apart (suc n) zero g o apart = refl
seen-apart (suc n) (suc m) g o apart = seen-apart n m g o (λ e. apart (ap suc e))

pub cons-changed : {A : Type 0} (x : A) (xs : List A) (n : ℕ) (g : A → A) (o : Option A) → changed_at (x ∷ xs) (suc n) g o ≡ x ∷ changed_at xs n g o
cons-changed x xs n g None = refl
cons-changed x xs n g (Some y) = refl

pub change-get : {A : Type 0} (xs : List A) (n m : ℕ) (g : A → A) → slice_get (change xs n g) m ≡ seen_changed n m g (slice_get xs m)
change-get [] n m g = sym (none_changed n m g)
change-get (x ∷ xs) zero zero g = refl
change-get (x ∷ xs) zero (suc m) g = refl
change-get (x ∷ xs) (suc n) zero g = ap (λ zs. slice_get zs zero) (cons-changed x xs n g (slice_get xs n))
change-get (x ∷ xs) (suc n) (suc m) g = ap (λ zs. slice_get zs (suc m)) (cons-changed x xs n g (slice_get xs n)) ∙ change-get xs n m g

pub set-get : {A : Type 0} (xs : List A) (n m : ℕ) (y : A) → slice_get (slice_set xs n y) m ≡ seen_changed n m (λ (x : A). y) (slice_get xs m)
set-get [] n m y = sym (none_changed n m (λ x. y))
set-get (x ∷ xs) zero zero y = refl
set-get (x ∷ xs) zero (suc m) y = refl
set-get (x ∷ xs) (suc n) zero y = refl
set-get (x ∷ xs) (suc n) (suc m) y = set-get xs n m y

-- an element that is there is changed by being set
pub set-change : {A : Type 0} (xs : List A) (n : ℕ) (g : A → A) (x : A) → slice_get xs n ≡ Some x → change xs n g ≡ slice_set xs n (g x)
set-change xs n g x at = ap (changed_at xs n g) at

-- ---- two lists, of which a view shows the same

mapped_alike : {A B : Type 0} (f : A → B) (g h : A → A) → ((x y : A) → f y ≡ f x → f (h y) ≡ f (g x)) → (o r : Option A) → option_map f r ≡ option_map f o → option_map f (option_map h r) ≡ option_map f (option_map g o)
mapped_alike f g h keeps None None e = refl
mapped_alike f g h keeps None (Some y) e = absurd (none-some (f y) (sym e))
mapped_alike f g h keeps (Some x) None e = absurd (none-some (f x) e)
mapped_alike f g h keeps (Some x) (Some y) e = ap Some (keeps x y (same_Some (f y) (f x) e))

seen_alike : {A B : Type 0} (f : A → B) (g h : A → A) → ((x y : A) → f y ≡ f x → f (h y) ≡ f (g x)) → (n m : ℕ) (o r : Option A) → option_map f r ≡ option_map f o
    → option_map f (seen_changed n m h r) ≡ option_map f (seen_changed n m g o)
seen_alike f g h keeps zero zero o r e = mapped_alike f g h keeps o r e
seen_alike f g h keeps zero (suc m) o r e = e
seen_alike f g h keeps (suc n) zero o r e = e
seen_alike f g h keeps (suc n) (suc m) o r e = seen_alike f g h keeps n m o r e

-- both are changed alike
pub change-alike : {A B : Type 0} (f : A → B) (g h : A → A) → ((x y : A) → f y ≡ f x → f (h y) ≡ f (g x)) → (xs ys : List A) (n m : ℕ) → AlikeAt f xs ys m → AlikeAt f (change xs n g) (change ys n h) m
change-alike f g h keeps xs ys n m e =
    ap (option_map f) (change-get ys n m h) ∙ seen_alike f g h keeps n m (slice_get xs m) (slice_get ys m) e ∙ sym (ap (option_map f) (change-get xs n m g))

pub change-same : {A : Type 0} (g : A → A) (xs ys : List A) (n m : ℕ) → slice_get ys m ≡ slice_get xs m → slice_get (change ys n g) m ≡ slice_get (change xs n g) m
change-same g xs ys n m e = change-get ys n m g ∙ ap (seen_changed n m g) e ∙ sym (change-get xs n m g)

pub set-same : {A : Type 0} (y : A) (xs ys : List A) (n m : ℕ) → slice_get ys m ≡ slice_get xs m → slice_get (slice_set ys n y) m ≡ slice_get (slice_set xs n y) m
set-same y xs ys n m e = set-get ys n m y ∙ ap (seen_changed n m (λ x. y)) e ∙ sym (set-get xs n m y)

-- ---- one list, before and after

pub change-apart : {A : Type 0} (g : A → A) (xs : List A) (n m : ℕ) → m ≢ n → slice_get (change xs n g) m ≡ slice_get xs m
change-apart g xs n m apart = change-get xs n m g ∙ seen-apart n m g (slice_get xs m) apart

pub set-apart : {A : Type 0} (y : A) (xs : List A) (n m : ℕ) → m ≢ n → slice_get (slice_set xs n y) m ≡ slice_get xs m
set-apart y xs n m apart = set-get xs n m y ∙ seen-apart n m (λ x. y) (slice_get xs m) apart

mapped_kept : {A B : Type 0} (f : A → B) (g : A → A) → ((x : A) → f (g x) ≡ f x) → (o : Option A) → option_map f (option_map g o) ≡ option_map f o
mapped_kept f g keeps None = refl
mapped_kept f g keeps (Some x) = ap Some (keeps x)

seen_kept : {A B : Type 0} (f : A → B) (g : A → A) → ((x : A) → f (g x) ≡ f x) → (n m : ℕ) (o : Option A) → option_map f (seen_changed n m g o) ≡ option_map f o
seen_kept f g keeps zero zero o = mapped_kept f g keeps o
seen_kept f g keeps zero (suc m) o = refl
seen_kept f g keeps (suc n) zero o = refl
seen_kept f g keeps (suc n) (suc m) o = seen_kept f g keeps n m o

-- a change that the view does not show
pub change-kept : {A B : Type 0} (f : A → B) (g : A → A) → ((x : A) → f (g x) ≡ f x) → (xs : List A) (n m : ℕ) → AlikeAt f xs (change xs n g) m
change-kept f g keeps xs n m = ap (option_map f) (change-get xs n m g) ∙ seen_kept f g keeps n m (slice_get xs m)

-- ---- lists without one

cut_here : (b : Bool) (p x : ℕ) (xs : List ℕ) → (x == p) ≡ b → holds xs p ≡ false → holds (cond (not b) (x ∷ xs) xs) p ≡ false
cut_here true p x xs is none = none
cut_here false p x xs is none = ap (λ b. b || holds xs p) is ∙ none

pub lacks_itself : (xs : List ℕ) (p : ℕ) → holds (without xs p) p ≡ false
lacks_itself [] p = refl
lacks_itself (x ∷ xs) p = cut_here (x == p) p x (without xs p) refl (lacks_itself xs p)

cut_other : (b : Bool) (p q x : ℕ) (ys xs : List ℕ) → (x == p) ≡ b → q ≢ p → holds ys q ≡ holds xs q → holds (cond (not b) (x ∷ ys) ys) q ≡ holds (x ∷ xs) q
cut_other true p q x ys xs is apart same = same ∙ sym (ap (λ b. b || holds xs q) (ne_eqb x q (λ here. apart (sym here ∙ eqb-true x p is))))
cut_other false p q x ys xs is apart same = ap (λ b. (x == q) || b) same

pub has_others : (xs : List ℕ) (p q : ℕ) → q ≢ p → holds (without xs p) q ≡ holds xs q
has_others [] p q apart = refl
has_others (x ∷ xs) p q apart = cut_other (x == p) p q x (without xs p) xs refl apart (has_others xs p q apart)
