use Rattle.std.proofs.Common.{ℕ, ◌≡◌, ◌+◌, ◌-◌, ◌*◌, ◌/◌, ◌%◌, ◌^◌, ◌<◌, ◌≤◌, min, bit_and, ℤ, pos, negsuc, sym, ap, ◌∙◌, ⊎_elim, arith, w64, to_z, of_z}
use Rattle.std.proofs.Math.Nat.{div-eq_of_lt, mul-mod_left, pow-le-pow_right, mul_assoc}
use mir.Val.{SFits}
use lib.Signed.{mag_shr}
use Rattle.std.proofs.lemmas.Nat.{and_mask, pow_pos, pow-add}
use Rattle.std.proofs.lemmas.Nat.Bits.{ones_shr}
use Rattle.std.proofs.lemmas.Int.{to_z-of_z}
use Rattle.std.proofs.lemmas.Bool.{cases_lt}
use Rattle.std.specs.Int.{int_shr}
use Rattle.std.specs.Int.Signed.{mag}

-- 63 places down nothing is left of less than 2^63
shr_same : (a n : ℕ) → a < 2 ^ 63 → 63 ≤ n → a / 2 ^ n ≡ a / 2 ^ 63
shr_same a n small far =
    let wide : 2 ^ 63 ≤ 2 ^ n = pow-le-pow_right (omega arith) far in
    let none : a / 2 ^ n ≡ 0 = div-eq_of_lt (omega arith) in
    let none_63 : a / 2 ^ 63 ≡ 0 = div-eq_of_lt small in
    cc

-- the mask that the shift of all ones leaves
pub low_mask_is : (width : ℕ) → 1 ≤ width → width ≤ 64 → 18446744073709551615 / 2 ^ (64 - width) + 1 ≡ 2 ^ width
low_mask_is width some most =
    let back : 64 - (64 - width) ≡ width = omega arith in
    let within : 64 - width ≤ 64 = omega arith in
    let mask : 18446744073709551615 / 2 ^ (64 - width) ≡ 2 ^ (64 - (64 - width)) - 1 = ones_shr 64 (64 - width) within in
    rw mask (rw back (omega (arith, pow_pos width)))

-- `& mask` leaves the low bits
pub and_low_mask : (a mask width : ℕ) → mask + 1 ≡ 2 ^ width → bit_and a mask ≡ a % 2 ^ width
and_low_mask a mask width e =
    let is : mask ≡ 2 ^ width - 1 = omega arith in
    rw is (and_mask a width)

-- nothing is left 64 places up
pub shl_far : (a n : ℕ) → 64 ≤ n → 0 ≡ (a * 2 ^ n) % 2 ^ 64
shl_far a n far =
    let split : n ≡ (n - 64) + 64 = omega arith in
    let power : 2 ^ n ≡ 2 ^ (n - 64) * 2 ^ 64 = ap (λ k. 2 ^ k) split ∙ pow-add 2 (n - 64) 64 in
    rw power (rw (← mul_assoc) (sym (mul-mod_left (a * 2 ^ (n - 64)) (2 ^ 64))))

-- nothing is left 64 places down
pub shr_far : (a n : ℕ) → a < 2 ^ 64 → 64 ≤ n → 0 ≡ a / 2 ^ n
shr_far a n small far =
    let wide : 2 ^ 64 ≤ 2 ^ n = pow-le-pow_right (omega arith) far in
    sym (div-eq_of_lt (omega arith))

-- 63 places down only the sign is left
pub int_shr_far : (z : ℤ) (n : ℕ) → mag z < 2 ^ 63 → 63 ≤ n → int_shr z n ≡ int_shr z 63
int_shr_far (pos a) n small far = ap pos (shr_same a n small far)
int_shr_far (negsuc a) n small far = ap negsuc (shr_same a n small far)

-- the shift of a signed number by n places or by 63, as the code makes it
pub int_shr_is : (z : ℤ) (n m r : ℕ) → mag z < 2 ^ 63 → m ≡ min n 63 → r ≡ of_z w64 (to_z w64 (of_z w64 (int_shr (to_z w64 (of_z w64 z)) m))) → r ≡ of_z w64 (int_shr z n)
int_shr_is z n m r small least e =
    let fits : SFits w64 z = record { sfits = small } in
    let back : to_z w64 (of_z w64 z) ≡ z = to_z-of_z w64 z fits in
    let less : mag (int_shr z m) ≤ mag z = mag_shr z (2 ^ m) in
    let shifted : SFits w64 (int_shr z m) = record { sfits = omega arith } in
    let again : to_z w64 (of_z w64 (int_shr z m)) ≡ int_shr z m = to_z-of_z w64 (int_shr z m) shifted in
    let first : of_z w64 (to_z w64 (of_z w64 (int_shr (to_z w64 (of_z w64 z)) m))) ≡ of_z w64 (int_shr z m) = rw back (ap (of_z w64) again) in
    let same : int_shr z m ≡ int_shr z n = ⊎_elim
    (λ (near : n < 63). let is : m ≡ n = omega arith in ap (int_shr z) is)
    (λ (far : 63 ≤ n). let is : m ≡ 63 = omega arith in ap (int_shr z) is ∙ sym (int_shr_far z n small far))
    (cases_lt n 63) in
    e ∙ first ∙ ap (of_z w64) same
