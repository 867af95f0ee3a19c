-- Lists whose elements fit one another by their places.
use Rattle.std.proofs.Common.{◌≡◌, ◌<◌, ℕ, zero, suc, List, [], ◌∷◌, map, length, slice_get, slice_set, Option, Some, None, refl, sym, ◌∙◌, subst, arith}
use Rattle.std.proofs.lemmas.Option.{none-some, same_Some}
use Rattle.sim_model.specs.FlatDesign.Typed.{EachOf}
use Rattle.sim_model.specs.Configuration.{change, changed_at}
use Rattle.laws_runs.specs.Contents.{Pairwise}

-- the partner of an element, and what it is to it
pub record Partner {A B : Type 0} (P : A → B → Type 0) (x : A) (ys : List B) (n : ℕ) : Type 0 where
  pub other : B
  pub at : slice_get ys n ≡ Some other
  pub fits : P x other

pub partner-at : {A B : Type 0} (P : A → B → Type 0) (xs : List A) (ys : List B) (n : ℕ) (x : A) → Pairwise P xs ys → slice_get xs n ≡ Some x → Partner P x ys n
partner-at P [] [] n x h at = absurd (none-some x at)
partner-at P [] (y ∷ ys) n x h at = absurd h
partner-at P (z ∷ xs) [] n x h at = absurd h
partner-at P (z ∷ xs) (y ∷ ys) zero x h at = record { other = y; at = refl; fits = subst (λ w. P w y) (same_Some z x at) h.0 }
partner-at P (z ∷ xs) (y ∷ ys) (suc n) x h at = let p = partner-at P xs ys n x h.1 at in record { other = p.other; at = p.at; fits = p.fits }

pub pair-at : {A B : Type 0} (P : A → B → Type 0) (xs : List A) (ys : List B) (n : ℕ) (x : A) (y : B) → Pairwise P xs ys → slice_get xs n ≡ Some x → slice_get ys n ≡ Some y → P x y
pair-at P xs ys n x y h at there = let p = partner-at P xs ys n x h at in subst (P x) (same_Some p.other y (sym p.at ∙ there)) p.fits

-- one element of the second list is another that fits
pub pair-set : {A B : Type 0} (P : A → B → Type 0) (xs : List A) (ys : List B) (n : ℕ) (y : B) → ((x : A) → slice_get xs n ≡ Some x → P x y) → Pairwise P xs ys → Pairwise P xs (slice_set ys n y)
pair-set P [] [] n y fits h = h
pair-set P [] (z ∷ ys) n y fits h = absurd h
pair-set P (x ∷ xs) [] n y fits h = absurd h
pair-set P (x ∷ xs) (z ∷ ys) zero y fits h = (fits x refl, h.1)
pair-set P (x ∷ xs) (z ∷ ys) (suc n) y fits h = (h.0, pair-set P xs ys n y fits h.1)

changed_pair : {A B : Type 0} (P : A → B → Type 0) (xs : List A) (ys : List B) (n : ℕ) (f : B → B) → ((x : A) (y : B) → P x y → P x (f y)) → Pairwise P xs ys → (o : Option B) → slice_get ys n ≡ o → Pairwise P xs (changed_at ys n f o)
changed_pair P xs ys n f keeps h None at = h
changed_pair P xs ys n f keeps h (Some y) at = pair-set P xs ys n (f y) (λ x there. keeps x y (pair-at P xs ys n x y h there at)) h

pub pair-change : {A B : Type 0} (P : A → B → Type 0) (xs : List A) (ys : List B) (n : ℕ) (f : B → B) → ((x : A) (y : B) → P x y → P x (f y)) → Pairwise P xs ys → Pairwise P xs (change ys n f)
pair-change P xs ys n f keeps h = changed_pair P xs ys n f keeps h (slice_get ys n) refl

pub pair-map : {A B : Type 0} (P : A → B → Type 0) (f : B → B) → ((x : A) (y : B) → P x y → P x (f y)) → (xs : List A) (ys : List B) → Pairwise P xs ys → Pairwise P xs (map f ys)
pair-map P f keeps [] [] h = h
pair-map P f keeps [] (y ∷ ys) h = absurd h
pair-map P f keeps (x ∷ xs) [] h = absurd h
pair-map P f keeps (x ∷ xs) (y ∷ ys) h = (keeps x y h.0, pair-map P f keeps xs ys h.1)

-- an element of a list each of whose elements is so
pub each-at : {A : Type 0} (P : A → Type 0) (xs : List A) (n : ℕ) (x : A) → EachOf P xs → slice_get xs n ≡ Some x → P x
each-at P [] n x h at = absurd (none-some x at)
each-at P (y ∷ xs) zero x h at = subst P (same_Some y x at) h.0
each-at P (y ∷ xs) (suc n) x h at = each-at P xs n x h.1 at

-- there is an element of each number below the length
pub element-within : {A : Type 0} (xs : List A) (n : ℕ) → n < length xs → (x : A) × (slice_get xs n ≡ Some x)
element-within [] n h = absurd (omega (arith, h))
element-within (x ∷ xs) zero h = (x, refl)
element-within (x ∷ xs) (suc n) h = element-within xs n (omega (arith, h))
