-- Lists by number in which elements change, and what holds of each element.
use Rattle.std.proofs.Common.{◌≡◌, ℕ, zero, suc, Bool, true, false, cond, List, [], ◌∷◌, map, filter, length, slice_get, slice_set, Option, Some, None, option_map, refl, sym, ◌∙◌, subst}
use Rattle.std.proofs.lemmas.List.{length-set}
use Rattle.std.proofs.lemmas.Option.{none-some, same_Some, slice_get-map}
use Rattle.sim_model.specs.FlatDesign.Typed.{EachOf}
use Rattle.sim_model.specs.Configuration.{change, changed_at}

-- what holds of each element by its number
abbrev pub EachAt : {A : Type 0} → (ℕ → A → Type 0) → List A → Type 0
EachAt {A} P xs = (m : ℕ) (x : A) → slice_get xs m ≡ Some x → P m x

each_set : {A : Type 0} (P : ℕ → A → Type 0) (xs : List A) (n : ℕ) (y : A) → EachAt P xs → P n y → EachAt P (slice_set xs n y)
each_set P [] n y h new m x at = absurd (none-some x at)
each_set P (z ∷ xs) zero y h new zero x at = subst (P zero) (same_Some y x at) new
each_set P (z ∷ xs) zero y h new (suc m) x at = h (suc m) x at
each_set P (z ∷ xs) (suc n) y h new zero x at = h zero x at
each_set P (z ∷ xs) (suc n) y h new (suc m) x at = each_set (λ j. P (suc j)) xs n y (λ j w. h (suc j) w) new m x at

each_changed : {A : Type 0} (P : ℕ → A → Type 0) (xs : List A) (n : ℕ) (f : A → A) (o : Option A) → slice_get xs n ≡ o → ((x : A) → P n x → P n (f x)) → EachAt P xs → EachAt P (changed_at xs n f o)
each_changed P xs n f None found keeps h = h
each_changed P xs n f (Some x) found keeps h = each_set P xs n (f x) h (keeps x (h n x found))

pub change-each : {A : Type 0} (P : ℕ → A → Type 0) (xs : List A) (n : ℕ) (f : A → A) → ((x : A) → P n x → P n (f x)) → EachAt P xs → EachAt P (change xs n f)
change-each P xs n f keeps h = each_changed P xs n f (slice_get xs n) refl keeps h

changed_length : {A : Type 0} (xs : List A) (n : ℕ) (f : A → A) (o : Option A) → length (changed_at xs n f o) ≡ length xs
changed_length xs n f None = refl
changed_length xs n f (Some x) = length-set xs n (f x)

pub change-length : {A : Type 0} (xs : List A) (n : ℕ) (f : A → A) → length (change xs n f) ≡ length xs
change-length xs n f = changed_length xs n f (slice_get xs n)

mapped : {A : Type 0} (P : ℕ → A → Type 0) (f : A → A) (m : ℕ) → ((x : A) → P m x → P m (f x)) → (o : Option A) → ((x : A) → o ≡ Some x → P m x) → (y : A) → option_map f o ≡ Some y → P m y
mapped P f m keeps None h y at = absurd (none-some y at)
mapped P f m keeps (Some x) h y at = subst (P m) (same_Some (f x) y at) (keeps x (h x refl))

pub map-each : {A : Type 0} (P : ℕ → A → Type 0) (f : A → A) (xs : List A) → ((m : ℕ) (x : A) → P m x → P m (f x)) → EachAt P xs → EachAt P (map f xs)
map-each P f xs keeps h m y at = mapped P f m (keeps m) (slice_get xs m) (h m) y (sym (slice_get-map f xs m) ∙ at)

-- ---- lists without some of their elements

filtered : {A : Type 0} (P : A → Type 0) (b : Bool) (x : A) (xs : List A) → P x → EachOf P xs → EachOf P (cond b (x ∷ xs) xs)
filtered P true x xs h k = (h, k)
filtered P false x xs h k = k

pub filter-each : {A : Type 0} (P : A → Type 0) (test : A → Bool) (xs : List A) → EachOf P xs → EachOf P (filter test xs)
filter-each P test [] h = tt
filter-each P test (x ∷ xs) h = filtered P (test x) x (filter test xs) h.0 (filter-each P test xs h.1)
