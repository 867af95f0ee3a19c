-- The first that is found in lists put together.
use Rattle.std.proofs.Common.{◌≡◌, ℕ, ◌+◌, ◌<◌, ◌≤◌, suc, List, [], ◌∷◌, ◌++◌, map, get_or, drop, drop-cons, add-one, length, Option, Some, None, refl, sym, ap, ap₂, ◌∙◌}
use Rattle.std.specs.List.{flat_map}
use Rattle.std.specs.Option.{option_or}
use Rattle.std.proofs.lemmas.List.{drop_all}
use Rattle.tick_trees.specs.Unfit.{first}

pub or_assoc : {B : Type 0} (a b c : Option B) → option_or a (option_or b c) ≡ option_or (option_or a b) c
or_assoc None b c = refl
or_assoc (Some x) b c = refl

pub or_none : {B : Type 0} (a : Option B) → option_or a None ≡ a
or_none None = refl
or_none (Some x) = refl

pub first_append : {A B : Type 0} (f : A → Option B) (xs ys : List A) → first f (xs ++ ys) ≡ option_or (first f xs) (first f ys)
first_append f [] ys = refl
first_append f (x ∷ xs) ys = ap (option_or (f x)) (first_append f xs ys) ∙ or_assoc (f x) (first f xs) (first f ys)

-- what is found in two lists put together, and in three
pub two : {A B : Type 0} (f : A → Option B) (xs ys : List A) (a b : Option B) → a ≡ first f xs → b ≡ first f ys → option_or a b ≡ first f (xs ++ ys)
two f xs ys a b p q = ap₂ (λ x y. option_or x y) p q ∙ sym (first_append f xs ys)

pub three : {A B : Type 0} (f : A → Option B) (xs ys zs : List A) (a b c : Option B) → a ≡ first f xs → b ≡ first f ys → c ≡ first f zs → option_or (option_or a b) c ≡ first f (xs ++ (ys ++ zs))
three f xs ys zs a b c p q r = sym (or_assoc a b c) ∙ two f xs (ys ++ zs) a (option_or b c) p (two f ys zs b c q r)

-- of the elements from one on, it is what is found at that one, or else what is found behind
pub from_one : {A B X Y : Type 0} (f : A → Option B) (g : Y → List A) (view : X → Y) (xs : List X) (i : ℕ) (x : X) → i < length xs → x ≡ get_or xs i x
    → first f (flat_map g (map view (drop i xs))) ≡ option_or (first f (g (view x))) (first f (flat_map g (map view (drop (i + 1) xs))))
from_one f g view xs i x within is =
    rw (add-one, drop-cons xs i x within, ← is) (first_append f (g (view x)) (flat_map g (map view (drop (suc i) xs))))

-- what is found at the first counts, and nothing there counts not
pub passed : {B : Type 0} (a b : Option B) → a ≡ None → option_or a b ≡ b
passed a b e = ap (λ o. option_or o b) e

pub taken : {B : Type 0} (a b : Option B) (x : B) → a ≡ Some x → option_or a b ≡ Some x
taken a b x e = ap (λ o. option_or o b) e

-- a search for the first that is found, as far as one
module _ {A B X Y : Type 0} (f : A → Option B) (g : Y → List A) (view : X → Y) (xs : List X) (i : ℕ) where
  abbrev all : Option B
  all = first f (flat_map g (map view xs))

  abbrev behind : ℕ → Option B
  behind n = first f (flat_map g (map view (drop n xs)))

  pub goes_on : (x : X) → i < length xs → x ≡ get_or xs i x → all ≡ behind i → first f (g (view x)) ≡ None → all ≡ behind (i + 1)
  goes_on x within is so none = so ∙ from_one f g view xs i x within is ∙ passed (first f (g (view x))) (behind (i + 1)) none

  pub found_at : (x : X) (y : B) → i < length xs → x ≡ get_or xs i x → all ≡ behind i → first f (g (view x)) ≡ Some y → all ≡ Some y
  found_at x y within is so some = so ∙ from_one f g view xs i x within is ∙ taken (first f (g (view x))) (behind (i + 1)) y some

  pub none_left : length xs ≤ i → all ≡ behind i → all ≡ None
  none_left past so = so ∙ ap (λ (ys : List X). first f (flat_map g (map view ys))) (drop_all i xs past)
