use Rattle.std.proofs.Common.{ℕ, zero, suc, ◌≡◌, ◌+◌, ◌-◌, ◌*◌, ◌/◌, ◌%◌, ◌^◌, ◌<◌, ◌≤◌, bit_and, Bool, true, false, ◌∷◌, ◌++◌, take, refl, sym, ap, ◌∙◌, arith}
use Rattle.std.specs.Prelude.{replicate}
use Rattle.std.proofs.Math.Nat.{pow-suc, mul_comm, zero-mod, pow-le-pow_right}
use Rattle.std.proofs.lemmas.Nat.{and_comm, and-not, and_le_r}
use Rattle.logic_values.specs.declared.kinds.Digit.TheVariants.{Zero, One, Z, X}
use Rattle.logic_values.specs.Digits.{digit_of_bits, digits_in}
use Rattle.logic_values.specs.Vectors.{binary_digit, binary_digits, digit_value, value_of}
use Rattle.logic_values.proofs.PlaneLemmas.{half_and, low_and, lowest, bit, low_of_field, half_of_field}

double : (n : ℕ) → 2 ^ suc n ≡ 2 * 2 ^ n
double n = pow-suc 2 n ∙ mul_comm (2 ^ n) 2

-- planes that are all zeros or all ones
pub all_zero : (n : ℕ) → digits_in n 0 0 ≡ replicate n Zero
all_zero zero = refl
all_zero (suc n) = ap (λ ds. Zero ∷ ds) (all_zero n)

pub all_one : (n mask : ℕ) → mask + 1 ≡ 2 ^ n → digits_in n 0 mask ≡ replicate n One
all_one zero mask e = refl
all_one (suc n) mask e =
    let twice = double n in
    let odd : mask % 2 ≡ 1 = omega arith in
    let half : mask / 2 + 1 ≡ 2 ^ n = omega arith in
    rw (odd, all_one n (mask / 2) half) refl

pub all_z : (n mask : ℕ) → mask + 1 ≡ 2 ^ n → digits_in n mask 0 ≡ replicate n Z
all_z zero mask e = refl
all_z (suc n) mask e =
    let twice = double n in
    let odd : mask % 2 ≡ 1 = omega arith in
    let half : mask / 2 + 1 ≡ 2 ^ n = omega arith in
    rw (odd, all_z n (mask / 2) half) refl

pub all_x : (n mask : ℕ) → mask + 1 ≡ 2 ^ n → digits_in n mask mask ≡ replicate n X
all_x zero mask e = refl
all_x (suc n) mask e =
    let twice = double n in
    let odd : mask % 2 ≡ 1 = omega arith in
    let half : mask / 2 + 1 ≡ 2 ^ n = omega arith in
    rw (odd, all_x n (mask / 2) half) refl

-- a plane of ones alone
binary_place : (p : ℕ) → digit_of_bits 0 p ≡ binary_digit p
binary_place zero = refl
binary_place (suc p) = refl

pub binary_planes : (n bits : ℕ) → digits_in n 0 (bits % 2 ^ n) ≡ binary_digits n bits
binary_planes zero bits = refl
binary_planes (suc n) bits = rw (low_of_field bits n, half_of_field bits n, binary_place (bits % 2), binary_planes n (bits / 2)) refl

take_replicate : (w m : ℕ) → w ≤ m → take w (replicate m Zero) ≡ replicate w Zero
take_replicate zero m h = refl
take_replicate (suc w) zero h = absurd (omega arith)
take_replicate (suc w) (suc m) h = ap (λ ds. Zero ∷ ds) (take_replicate w m (omega arith))

-- planes with zeros above
pub resized_planes : (w m n u o : ℕ) → w ≤ m → u < 2 ^ n → o < 2 ^ n → digits_in w (u % 2 ^ w) (o % 2 ^ w) ≡ take w (digits_in n u o ++ replicate m Zero)
resized_planes zero m n u o h hu ho = refl
resized_planes (suc w) zero n u o h hu ho = absurd (omega arith)
resized_planes (suc w) (suc m) zero u o h hu ho =
    let no_u : u ≡ 0 = omega arith in
    let no_o : o ≡ 0 = omega arith in
    let left : 0 % 2 ^ suc w ≡ 0 = zero-mod (2 ^ suc w) in
    rw (no_u, no_o, left) (all_zero (suc w) ∙ sym (take_replicate (suc w) (suc m) h))
resized_planes (suc w) (suc m) (suc n) u o h hu ho =
    let twice = double n in
    let rest = resized_planes w (suc m) n (u / 2) (o / 2) (omega arith) (omega arith) (omega arith) in
    rw (low_of_field u w, low_of_field o w, half_of_field u w, half_of_field o w, rest) refl

value_place : (b p : Bool) → digit_value (digit_of_bits (bit b) (bit p)) + bit_and (bit b) (bit p) ≡ bit p
value_place false false = refl
value_place false true = refl
value_place true false = refl
value_place true true = refl

-- the digits 1, and what stands in both planes, make up the plane of ones
pub value_planes : (n u o : ℕ) → o < 2 ^ n → value_of (digits_in n u o) + bit_and u o ≡ o
value_planes zero u o h = let less : bit_and u o ≤ o = and_le_r u o in omega arith
value_planes (suc n) u o h =
    let twice = double n in
    let first : digit_value (digit_of_bits (u % 2) (o % 2)) + bit_and (u % 2) (o % 2) ≡ o % 2 =
    rw ((lowest u).1, (lowest o).1) (value_place (lowest u).0 (lowest o).0) in
    let rest = value_planes n (u / 2) (o / 2) (omega arith) in
    let low = low_and u o in
    let half = half_and u o in
    omega arith

-- `ones & !unknown`
pub number_is : (n u o : ℕ) → n ≤ 64 → u < 2 ^ n → o < 2 ^ n → bit_and o (18446744073709551615 - u) ≡ value_of (digits_in n u o)
number_is n u o most hu ho =
    let wide : 2 ^ n ≤ 2 ^ 64 = pow-le-pow_right (omega arith) most in
    let parts = value_planes n u o ho in
    let others : bit_and (18446744073709551615 - u) o + bit_and u o ≡ o = and-not 64 u o (omega arith) (omega arith) in
    let turned : bit_and o (18446744073709551615 - u) ≡ bit_and (18446744073709551615 - u) o = and_comm o (18446744073709551615 - u) in
    omega arith
