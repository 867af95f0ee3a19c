use Rattle.std.proofs.Common.{ℕ, zero, suc, ◌≡◌, ◌+◌, ◌-◌, ◌/◌, ◌<◌, List, [], ◌∷◌, ◌++◌, map, reverse, drop, refl, sym, ap, ◌∙◌, arith}
use Rattle.std.specs.Prelude.{slice_get, Some}
use Rattle.std.proofs.lemmas.List.{map-append, reverse-append}
use Rattle.logic_values.specs.declared.kinds.Digit.{Digit}
use Rattle.logic_values.specs.Digits.{digits_in}
use Rattle.logic_values.specs.ValueText.{letter_of}

-- the digits from their number on are none
pub drop_digits : (n u o : ℕ) → drop n (digits_in n u o) ≡ []
drop_digits zero u o = refl
drop_digits (suc n) u o = drop_digits n (u / 2) (o / 2)

-- a list from a place on begins with the element there
drop_at : (i : ℕ) (ds : List Digit) (d : Digit) → slice_get ds i ≡ Some d → drop i ds ≡ d ∷ drop (i + 1) ds
drop_at i [] d e = cc
drop_at zero (x ∷ xs) d e = let same : x ≡ d = cc in ap (λ y. y ∷ xs) same
drop_at (suc i) (x ∷ xs) d e =
    let next : suc i + 1 ≡ suc (i + 1) = omega arith in
    rw next (drop_at i xs d e)

-- one digit more, from the highest down
pub letters_more : (p : ℕ) (ds : List Digit) (d : Digit) → 0 < p → slice_get ds (p - 1) ≡ Some d → map letter_of (reverse (drop p ds)) ++ letter_of d ∷ [] ≡ map letter_of (reverse (drop (p - 1) ds))
letters_more p ds d some e =
    let up : p - 1 + 1 ≡ p = omega arith in
    let first : drop (p - 1) ds ≡ d ∷ drop p ds = drop_at (p - 1) ds d e ∙ ap (λ n. d ∷ drop n ds) up in
    let turned : reverse (drop (p - 1) ds) ≡ reverse (drop p ds) ++ d ∷ [] = ap reverse first ∙ reverse-append (d ∷ []) (drop p ds) in
    sym (ap (map letter_of) turned ∙ map-append letter_of (reverse (drop p ds)) (d ∷ []))
