-- Lists each of whose elements is so.
use Rattle.std.proofs.Common.{◌≡◌, ℕ, zero, suc, List, [], ◌∷◌, ◌++◌, map, length, replicate, drop, slice_get, slice_set, Option, Some, None, refl, ap, subst}
use Rattle.std.proofs.lemmas.Option.{none-some, same_Some}
use Rattle.sim_model.specs.FlatDesign.Typed.{EachOf}
use Rattle.sim_model.specs.Configuration.{change, changed_at}

pub each-set : {A : Type 0} (P : A → Type 0) (xs : List A) (n : ℕ) (y : A) → EachOf P xs → P y → EachOf P (slice_set xs n y)
each-set P [] n y h is = h
each-set P (x ∷ xs) zero y h is = (is, h.1)
each-set P (x ∷ xs) (suc n) y h is = (h.0, each-set P xs n y h.1 is)

pub each-get : {A : Type 0} (P : A → Type 0) (xs : List A) (n : ℕ) (x : A) → EachOf P xs → slice_get xs n ≡ Some x → P x
each-get P [] n x h at = absurd (none-some x at)
each-get P (y ∷ xs) zero x h at = subst P (same_Some y x at) h.0
each-get P (y ∷ xs) (suc n) x h at = each-get P xs n x h.1 at

each_changed : {A : Type 0} (P : A → Type 0) (xs : List A) (n : ℕ) (f : A → A) → EachOf P xs → ((x : A) → slice_get xs n ≡ Some x → P x → P (f x)) → (o : Option A) → slice_get xs n ≡ o → EachOf P (changed_at xs n f o)
each_changed P xs n f h keeps None at = h
each_changed P xs n f h keeps (Some x) at = each-set P xs n (f x) h (keeps x at (each-get P xs n x h at))

pub each-change : {A : Type 0} (P : A → Type 0) (xs : List A) (n : ℕ) (f : A → A) → ((x : A) → slice_get xs n ≡ Some x → P x → P (f x)) → EachOf P xs → EachOf P (change xs n f)
each-change P xs n f keeps h = each_changed P xs n f h keeps (slice_get xs n) refl

pub each-more : {A : Type 0} (P : A → Type 0) (xs ys : List A) → EachOf P xs → EachOf P ys → EachOf P (xs ++ ys)
each-more P [] ys h g = g
each-more P (x ∷ xs) ys h g = (h.0, each-more P xs ys h.1 g)

pub each-map : {A B : Type 0} (P : A → Type 0) (Q : B → Type 0) (f : A → B) → ((x : A) → P x → Q (f x)) → (xs : List A) → EachOf P xs → EachOf Q (map f xs)
each-map P Q f keeps [] h = tt
each-map P Q f keeps (x ∷ xs) h = (keeps x h.0, each-map P Q f keeps xs h.1)

pub each-drop : {A : Type 0} (P : A → Type 0) (n : ℕ) (xs : List A) → EachOf P xs → EachOf P (drop n xs)
each-drop P zero xs h = h
each-drop P (suc n) [] h = h
each-drop P (suc n) (x ∷ xs) h = each-drop P n xs h.1

pub each-replicate : {A : Type 0} (P : A → Type 0) (n : ℕ) (x : A) → P x → EachOf P (replicate n x)
each-replicate P zero x h = tt
each-replicate P (suc n) x h = (h, each-replicate P n x h)

-- lengths stay
pub length-set : {A : Type 0} (xs : List A) (n : ℕ) (y : A) → length (slice_set xs n y) ≡ length xs
length-set [] n y = refl
length-set (x ∷ xs) zero y = refl
length-set (x ∷ xs) (suc n) y = ap suc (length-set xs n y)

length_changed : {A : Type 0} (xs : List A) (n : ℕ) (f : A → A) (o : Option A) → length (changed_at xs n f o) ≡ length xs
length_changed xs n f None = refl
length_changed xs n f (Some x) = length-set xs n (f x)

pub length-change : {A : Type 0} (xs : List A) (n : ℕ) (f : A → A) → length (change xs n f) ≡ length xs
length-change xs n f = length_changed xs n f (slice_get xs n)

-- an element stays where more come behind
pub get-more : {A : Type 0} (xs ys : List A) (n : ℕ) (x : A) → slice_get xs n ≡ Some x → slice_get (xs ++ ys) n ≡ Some x
get-more [] ys n x at = absurd (none-some x at)
get-more (z ∷ xs) ys zero x at = at
get-more (z ∷ xs) ys (suc n) x at = get-more xs ys n x at
