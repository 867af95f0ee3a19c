-- How many numbers so many bits have.
use Rattle.std.proofs.Common.{ℕ, suc, ◌≡◌, ◌+◌, ◌-◌, ◌*◌, ◌/◌, ◌^◌, ◌≤◌, ap, ◌∙◌, arith}
use Rattle.std.proofs.Math.Nat.{pow-suc, mul_comm}
use Rattle.std.proofs.lemmas.Nat.{pow_pos}
use Rattle.std.proofs.lemmas.Nat.Bits.{ones_shr}

pub greatest_is : (width : ℕ) → 1 ≤ width → width ≤ 64 → 18446744073709551615 / 2 ^ (64 - width) + 1 ≡ 2 ^ width
greatest_is width some most =
    let back : 64 - (64 - width) ≡ width = omega arith in
    let within : 64 - width ≤ 64 = omega arith in
    let mask : 18446744073709551615 / 2 ^ (64 - width) ≡ 2 ^ (64 - (64 - width)) - 1 = ones_shr 64 (64 - width) within in
    rw mask (rw back (omega (arith, pow_pos width)))

pub half_is : (most width : ℕ) → 1 ≤ width → most + 1 ≡ 2 ^ width → most / 2 + 1 ≡ 2 ^ (width - 1)
half_is most width some is =
    let before : width ≡ suc (width - 1) = omega arith in
    let double : 2 ^ width ≡ 2 * 2 ^ (width - 1) = ap (λ k. 2 ^ k) before ∙ pow-suc 2 (width - 1) ∙ mul_comm (2 ^ (width - 1)) 2 in
    omega (arith, double, is, pow_pos (width - 1))
