use Rattle.std.proofs.Common.{ℕ, zero, suc, ◌≡◌, ◌+◌, ◌-◌, ◌*◌, ◌%◌, ◌^◌, ◌<◌, ◌≤◌, pos, refl, sym, ap, ◌∙◌, ⊎_elim, arith, w64}
use Rattle.std.specs.Prelude.{neg_ℤ}
use Rattle.std.proofs.Math.Nat.{pow-le-pow_right, mod-mod, mod-eq_of_lt}
use Rattle.std.proofs.lemmas.Nat.{pow_pos, pow-add, mod-mul-add, mod_below}
use Rattle.std.proofs.lemmas.Int.{to_z-of_z}
use Rattle.std.proofs.lemmas.Bool.{cases_lt}
use mir.Val.{SFits}
use Rattle.std.specs.Int.Signed.{mag}
use Rattle.logic_values.specs.declared.kinds.Sign.{Sign}
use Rattle.logic_values.specs.declared.kinds.Sign.TheVariants.{Signed, Unsigned}
use Rattle.logic_values.specs.Integers.{number_of, bits_of, twos_complement, cut_of}

-- the two cases of a number in two's complement
low_half : (width low : ℕ) → 2 * low < 2 ^ width → twos_complement width low ≡ pos low
low_half width low h = grind arith

high_half : (width low : ℕ) → 2 ^ width ≤ 2 * low → twos_complement width low ≡ neg_ℤ (pos (2 ^ width - low))
high_half width low h = grind arith

mag_neg : (m : ℕ) → 0 < m → m ≤ 2 ^ 63 → mag (neg_ℤ (pos m)) < 2 ^ 63
mag_neg zero some most = absurd (omega arith)
mag_neg (suc n) some most = most

bits_of_neg : (m : ℕ) → 0 < m → bits_of (neg_ℤ (pos m)) ≡ 2 ^ 64 - m
bits_of_neg zero some = absurd (omega arith)
bits_of_neg (suc n) some = refl

-- it fits 64 bits
SFits-twos_complement : (width low : ℕ) → width ≤ 64 → low < 2 ^ width → SFits w64 (twos_complement width low)
SFits-twos_complement width low most fits =
    let wide : 2 ^ width ≤ 2 ^ 64 = pow-le-pow_right (omega arith) most in
    ⊎_elim
    (λ (h : 2 * low < 2 ^ width). let below : low < 2 ^ 63 = omega arith in rw (low_half width low h) (record { sfits = below }))
    (λ (h : 2 ^ width ≤ 2 * low). rw (high_half width low h) (record { sfits = mag_neg (2 ^ width - low) (omega arith) (omega arith) }))
    (cases_lt (2 * low) (2 ^ width))

-- a signed integer that is cut is the number of its lowest bits in two's complement
pub number_of-cut_of : (width a : ℕ) → width ≤ 64 → number_of Signed (cut_of Signed width a) ≡ twos_complement width (a % 2 ^ width)
number_of-cut_of width a most =
    let fits : a % 2 ^ width < 2 ^ width = mod_below a (2 ^ width) (pow_pos width) in
    to_z-of_z w64 (twos_complement width (a % 2 ^ width)) (SFits-twos_complement width (a % 2 ^ width) most fits)

less_of_multiple : (q p n low : ℕ) → 0 < q → q * p ≡ n → low < p → (n - (p - low)) % p ≡ low
less_of_multiple zero p n low some e h = absurd (omega arith)
less_of_multiple (suc j) p n low some e h =
    let is : n - (p - low) ≡ j * p + low = omega arith in
    rw is (mod-mul-add j p low h)

-- its lowest bits stay
low_of_bits : (width low : ℕ) → width ≤ 64 → low < 2 ^ width → bits_of (twos_complement width low) % 2 ^ width ≡ low
low_of_bits width low most fits =
    let wide : 2 ^ width ≤ 2 ^ 64 = pow-le-pow_right (omega arith) most in
    let whole : 64 - width + width ≡ 64 = omega arith in
    let power : 2 ^ (64 - width) * 2 ^ width ≡ 2 ^ 64 = sym (pow-add 2 (64 - width) width) ∙ ap (λ n. 2 ^ n) whole in
    ⊎_elim
    (λ (h : 2 * low < 2 ^ width). rw (low_half width low h) (mod-eq_of_lt fits))
    (λ (h : 2 ^ width ≤ 2 * low). rw (high_half width low h, bits_of_neg (2 ^ width - low) (omega arith)) (less_of_multiple (2 ^ (64 - width)) (2 ^ width) (2 ^ 64) low (pow_pos (64 - width)) power fits))
    (cases_lt (2 * low) (2 ^ width))

-- to cut twice is to cut once
pub cut_of-cut_of : (s : Sign) (width a : ℕ) → width ≤ 64 → cut_of s width (cut_of s width a) ≡ cut_of s width a
cut_of-cut_of Signed width a most =
    let fits : a % 2 ^ width < 2 ^ width = mod_below a (2 ^ width) (pow_pos width) in
    ap (λ low. bits_of (twos_complement width low)) (low_of_bits width (a % 2 ^ width) most fits)
cut_of-cut_of Unsigned width a most = mod-mod a (2 ^ width)

-- an integer of 64 bits is cut by nothing
pub cut_of_whole : (s : Sign) (a : ℕ) → a < 2 ^ 64 → cut_of s 64 a ≡ a
cut_of_whole Signed a h =
    let same : a % 2 ^ 64 ≡ a = mod-eq_of_lt h in
    ⊎_elim
    (λ (g : 2 * a < 2 ^ 64). rw (same, low_half 64 a g) refl)
    (λ (g : 2 ^ 64 ≤ 2 * a). rw (same, high_half 64 a g, bits_of_neg (2 ^ 64 - a) (omega arith)) (omega arith))
    (cases_lt (2 * a) (2 ^ 64))
cut_of_whole Unsigned a h = mod-eq_of_lt h
