-- The greatest of numbers is a bound, which one of them reaches.
use Rattle.std.proofs.Common.{◌≡◌, ◌≤◌, ◌<◌, ◌⊎◌, ℕ, zero, suc, List, [], ◌∷◌, length, max, refl, sym, ap, ◌∙◌, inl, inr, arith}
use Rattle.std.specs.Prelude.{Contains, slice_index_or}
use Rattle.code_rules.specs.Tables.{greatest_in}

pub max_is : (m n : ℕ) → (max m n ≡ m) ⊎ (max m n ≡ n)
max_is m n = grind arith

contains_at : {A : Type 0} (x : A) (xs : List A) (y : A) (k : ℕ) → k < length (x ∷ xs) → slice_index_or (x ∷ xs) k y ≡ y → (x ≡ y) ⊎ Contains xs y
contains_at x xs y zero lt e = inl e
contains_at x xs y (suc k) lt e = inr (k, omega (arith, lt), e)

-- the first of a list, or one of the others
contains_cases : {A : Type 0} (x : A) (xs : List A) (y : A) → Contains (x ∷ xs) y → (x ≡ y) ⊎ Contains xs y
contains_cases x xs y c = contains_at x xs y c.0 c.1 c.2

contains_first : {A : Type 0} (x : A) (xs : List A) → Contains (x ∷ xs) x
contains_first x xs = (0, omega arith, refl)

contains_more : {A : Type 0} (x : A) (xs : List A) (y : A) → Contains xs y → Contains (x ∷ xs) y
contains_more x xs y c = let lt = c.1 in (suc c.0, omega (arith, lt), c.2)

pub contains_none : {A : Type 0} (y : A) → Contains [] y → ⊥
contains_none y c = let lt = c.1 in omega (arith, lt)

module _ {A : Type 0} (h : A → ℕ) where
  pub first_fits : (xs : List A) (first : ℕ) → first ≤ greatest_in h first xs
  first_fits [] first = omega arith
  first_fits (x ∷ xs) first = let more = first_fits xs (max first (h x)) in omega (arith, more)

  pub each_fits : (xs : List A) (first : ℕ) (x : A) → Contains xs x → h x ≤ greatest_in h first xs
  each_fits [] first x c = absurd (contains_none x c)
  each_fits (y ∷ xs) first x c =
      elim (contains_cases y xs x c) [
        | inl e ↦ let le = first_fits xs (max first (h y)) in let same = ap h e in omega (arith, le, same)
        | inr more ↦ each_fits xs (max first (h y)) x more
      ]

  pub reached : (xs : List A) (first : ℕ) → (greatest_in h first xs ≡ first) ⊎ ((x : A) × Contains xs x × (h x ≡ greatest_in h first xs))
  reached [] first = inl refl
  reached (y ∷ xs) first =
      elim (reached xs (max first (h y))) [
        | inl e ↦ elim (max_is first (h y)) [ inl m ↦ inl (e ∙ m) | inr m ↦ inr (y, contains_first y xs, sym (e ∙ m)) ]
        | inr w ↦ inr (w.0, contains_more y xs w.0 w.1, w.2)
      ]
