-- Lists with the same sums, whatever is summed, have the same elements in whatever order.
use Rattle.std.proofs.Common.{◌≡◌, ◌==◌, ◌<◌, ℕ, Bool, true, false, cond, List, [], ◌∷◌, ◌++◌, sum_by, IsPermutation, refl, sym, ap, ◌∙◌, subst, arith, eqb-true}
use Rattle.std.proofs.lemmas.Bool.{eq-eqb}
use Rattle.std.proofs.lemmas.List.Sums.{sum_by-cons, sum_by-append}
use Rattle.std.proofs.lemmas.List.Sorted.{IsPermutation-refl, IsPermutation-cons, IsPermutation-sym, IsPermutation-trans, IsPermutation-middle}

pub sums-same : {A : Type 0} (f g : A → ℕ) → ((a : A) → g a ≡ f a) → (xs : List A) → sum_by g xs ≡ sum_by f xs
sums-same f g h [] = refl
sums-same f g h (x ∷ xs) =
    let one = h x in
    let rest = sums-same f g h xs in
    let here = sum_by-cons f x xs in
    let there = sum_by-cons g x xs in
    omega (arith, one, rest, here, there)

-- elements that a number tells
module _ {A : Type 0} (number : A → ℕ) (back : (a b : A) → number a ≡ number b → a ≡ b) where
  abbrev is_it : A → A → ℕ
  is_it x y = cond (number y == number x) 1 0

  itself_once : (x : A) → is_it x x ≡ 1
  itself_once x = ap (λ b. cond b 1 0) (eq-eqb (number x) (number x) refl)

  split : (x : A) (ys : List A) → 0 < sum_by (is_it x) ys → (us : List A) × (vs : List A) × (ys ≡ us ++ x ∷ vs)
  split x [] some = absurd (omega (arith, some))
  split x (y ∷ ys) some = by (number y == number x) refl (split x ys)
    where
      by : (b : Bool) → (number y == number x) ≡ b → (0 < sum_by (is_it x) ys → (us : List A) × (vs : List A) × (ys ≡ us ++ x ∷ vs)) → (us : List A) × (vs : List A) × (y ∷ ys ≡ us ++ x ∷ vs)
      by true is later = ([], ys, ap (λ z. z ∷ ys) (back y x (eqb-true (number y) (number x) is)))
      by false is later =
          let more = sum_by-cons (is_it x) y ys in
          let none : is_it x y ≡ 0 = ap (λ b. cond b 1 0) is in
          let rest = later (omega (arith, more, none, some)) in
          (y ∷ rest.0, rest.1, ap (λ zs. y ∷ zs) rest.2)

  pub from-sums : (xs ys : List A) → ((g : A → ℕ) → sum_by g ys ≡ sum_by g xs) → IsPermutation xs ys
  from-sums [] [] h = IsPermutation-refl []
  from-sums [] (y ∷ ys) h =
      let many = h (λ a. 1) in
      let more = sum_by-cons (λ (a : A). 1) y ys in
      absurd (omega (arith, many, more))
  from-sums (x ∷ xs) ys h =
      subst (IsPermutation (x ∷ xs)) (sym parts.2)
      (IsPermutation-trans (x ∷ xs) (x ∷ (parts.0 ++ parts.1)) (parts.0 ++ x ∷ parts.1) (IsPermutation-cons x xs (parts.0 ++ parts.1) (from-sums xs (parts.0 ++ parts.1) rest))
      (IsPermutation-sym (parts.0 ++ x ∷ parts.1) (x ∷ (parts.0 ++ parts.1)) (IsPermutation-middle parts.0 x parts.1)))
    where
      some : 0 < sum_by (is_it x) ys
      some =
          let same = h (is_it x) in
          let more = sum_by-cons (is_it x) x xs in
          let one = itself_once x in
          omega (arith, same, more, one)

      parts : (us : List A) × (vs : List A) × (ys ≡ us ++ x ∷ vs)
      parts = split x ys some

      rest : (g : A → ℕ) → sum_by g (parts.0 ++ parts.1) ≡ sum_by g xs
      rest g =
          let same : sum_by g (parts.0 ++ x ∷ parts.1) ≡ sum_by g (x ∷ xs) = ap (sum_by g) (sym parts.2) ∙ h g in
          let here = sum_by-cons g x xs in
          let there = sum_by-append g parts.0 (x ∷ parts.1) in
          let then = sum_by-cons g x parts.1 in
          let both = sum_by-append g parts.0 parts.1 in
          omega (arith, same, here, there, then, both)
