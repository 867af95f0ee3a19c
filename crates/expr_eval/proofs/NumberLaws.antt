-- Numbers at widths that no type has, and the bits of a number.
use Rattle.std.proofs.Common.{ℕ, ◌≡◌, ◌+◌, ◌-◌, ◌*◌, ◌/◌, ◌%◌, ◌^◌, ◌<◌, ◌≤◌, min, pos, refl, sym, ap, ◌∙◌, ⊎_elim, arith}
use Rattle.std.proofs.Math.Nat.{pow-le-pow_right, mod-eq_of_lt, mod-one, div-le_self}
use Rattle.std.proofs.lemmas.Bool.{cases_lt}
use Rattle.sim_model.specs.LogicValues.declared.kinds.Sign.{Sign}
use Rattle.sim_model.specs.LogicValues.declared.kinds.Sign.TheVariants.{Signed, Unsigned}
use Rattle.sim_model.specs.LogicValues.Integers.{twos_complement, cut_of}
use Rattle.sim_model.specs.Values.{bits_between}

-- nothing is left at width 0
pub cut_to_none : (s : Sign) (n : ℕ) → 0 ≡ cut_of s 0 n
cut_to_none Signed n = let none : n % 2 ^ 0 ≡ 0 = mod-one n in rw none refl
cut_to_none Unsigned n = sym (mod-one n)

low_half : (width low : ℕ) → 2 * low < 2 ^ width → twos_complement width low ≡ pos low
low_half width low h = grind arith

-- a number of 64 bits stays as it is at a width above 64
pub cut_to_all : (s : Sign) (width n : ℕ) → 64 < width → n < 2 ^ 64 → n ≡ cut_of s width n
cut_to_all Signed width n wide small =
    let power : 2 ^ 65 ≤ 2 ^ width = pow-le-pow_right (omega arith) wide in
    let same : n % 2 ^ width ≡ n = mod-eq_of_lt (omega arith) in
    rw (same, low_half width n (omega arith)) refl
cut_to_all Unsigned width n wide small =
    let reach : 64 ≤ width = omega arith in
    let power : 2 ^ 64 ≤ 2 ^ width = pow-le-pow_right (omega arith) reach in
    sym (mod-eq_of_lt (omega arith))

-- no bits are between places in the wrong order
pub no_bits_between : (n high low : ℕ) → high < low → 0 ≡ bits_between n high low
no_bits_between n high low h =
    let none : high + 1 - low ≡ 0 = omega arith in
    rw none (sym (mod-one (n / 2 ^ low)))

-- at most 64 bits are there to be cut
pub bits_cut : (n high low width : ℕ) → n < 2 ^ 64 → low ≤ high → width ≡ min (high - low) 63 + 1 → (n / 2 ^ low) % 2 ^ width ≡ bits_between n high low
bits_cut n high low width small order is = ⊎_elim
    (λ (near : high - low < 64). let same : width ≡ high + 1 - low = omega arith in ap (λ w. (n / 2 ^ low) % 2 ^ w) same)
    (λ (far : 64 ≤ high - low).
    let here : 64 ≤ width = omega arith in
    let there : 64 ≤ high + 1 - low = omega arith in
    let power : 2 ^ 64 ≤ 2 ^ width = pow-le-pow_right (omega arith) here in
    let more : 2 ^ 64 ≤ 2 ^ (high + 1 - low) = pow-le-pow_right (omega arith) there in
    let less : n / 2 ^ low ≤ n = div-le_self n (2 ^ low) in
    let first : (n / 2 ^ low) % 2 ^ width ≡ n / 2 ^ low = mod-eq_of_lt (omega arith) in
    let second : (n / 2 ^ low) % 2 ^ (high + 1 - low) ≡ n / 2 ^ low = mod-eq_of_lt (omega arith) in
    first ∙ sym second)
    (cases_lt (high - low) 64)
