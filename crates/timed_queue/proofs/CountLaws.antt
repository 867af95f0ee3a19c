-- How many numbers below a bound pass a test.
use Rattle.std.proofs.Common.{◌≡◌, ℕ, zero, suc, ◌+◌, ◌≢◌, ◌≤◌, ◌<◌, Bool, true, false, refl, ap, ◌∙◌, ⊎_elim, arith}
use Rattle.std.proofs.lemmas.Bool.{cases_eq}

abbrev pub bit : Bool → ℕ
bit true = 1
bit false = 0

unfoldable pub count_below : ℕ → (ℕ → Bool) → ℕ
count_below zero p = 0
count_below (suc n) p = bit (p n) + count_below n p

bit-le : (b : Bool) → bit b ≤ 1
bit-le true = omega arith
bit-le false = omega arith

pub count-le : (n : ℕ) (p : ℕ → Bool) → count_below n p ≤ n
unfolding count_below
count-le zero p = omega arith
count-le (suc n) p = let one = bit-le (p n) in let rest = count-le n p in omega (arith, one, rest)

pub count_none : (n : ℕ) (p : ℕ → Bool) → ((k : ℕ) → p k ≡ false) → count_below n p ≡ 0
unfolding count_below
count_none zero p none = refl
count_none (suc n) p none = let e = ap bit (none n) in let rest = count_none n p none in omega (arith, e, rest)

count_same : (n : ℕ) (p q : ℕ → Bool) → ((k : ℕ) → k < n → q k ≡ p k) → count_below n q ≡ count_below n p
unfolding count_below
count_same zero p q same = refl
count_same (suc n) p q same = let e = ap bit (same n (omega arith)) in let rest = count_same n p q (λ k less. same k (omega (arith, less))) in omega (arith, e, rest)

-- one number more passes
pub count_more : (n : ℕ) (p q : ℕ → Bool) (at : ℕ) → at < n → p at ≡ false → q at ≡ true → ((k : ℕ) → k ≢ at → q k ≡ p k) → count_below n q ≡ count_below n p + 1
unfolding count_below
count_more zero p q at less fails passes others = absurd (omega (arith, less))
count_more (suc n) p q at less fails passes others = ⊎_elim
    (λ (same : n ≡ at).
    let e : bit (q n) ≡ 1 = ap bit (ap q same ∙ passes) in
    let f : bit (p n) ≡ 0 = ap bit (ap p same ∙ fails) in
    let rest = count_same n p q (λ k lower. others k (λ (here : k ≡ at). omega (arith, here, same, lower))) in
    omega (arith, e, f, rest))
    (λ (apart : n ≢ at).
    let e : bit (q n) ≡ bit (p n) = ap bit (others n apart) in
    let rest = count_more n p q at (omega (arith, apart, less)) fails passes others in
    omega (arith, e, rest))
    (cases_eq n at)
