use Rattle.std.specs.Prelude.{ℕ, suc, ◌+◌, ◌*◌, ◌^◌, ◌<◌, ◌≤◌, ◌≡◌, List, [], ◌∷◌, length, take}
use Rattle.std.proofs.Common.{◌∙◌, arith}
use Rattle.std.proofs.Math.Nat.{pow-suc, mul_comm}
use Rattle.std.proofs.lemmas.List.{length-take}
use Rattle.logic_values.specs.declared.kinds.Digit.{Digit}
use Rattle.logic_values.specs.declared.kinds.Digit.TheVariants.{Zero, One, Z, X}
use Rattle.logic_values.specs.declared.planes.Lv.{Lv}

-- the bit of a digit in the plane of unknowns, and in the plane of ones
abbrev pub unknown_bit : Digit → ℕ
unknown_bit Zero = 0
unknown_bit One = 0
unknown_bit Z = 1
unknown_bit X = 1

abbrev pub one_bit : Digit → ℕ
one_bit Zero = 0
one_bit One = 1
one_bit Z = 0
one_bit X = 1

-- a plane of a list of digits, that of place 0 first
abbrev pub plane_of : (Digit → ℕ) → List Digit → ℕ
plane_of bit [] = 0
plane_of bit (d ∷ ds) = bit d + 2 * plane_of bit ds

pub unknown_bit-le : (d : Digit) → unknown_bit d ≤ 1
unknown_bit-le Zero = omega arith
unknown_bit-le One = omega arith
unknown_bit-le Z = omega arith
unknown_bit-le X = omega arith

pub one_bit-le : (d : Digit) → one_bit d ≤ 1
one_bit-le Zero = omega arith
one_bit-le One = omega arith
one_bit-le Z = omega arith
one_bit-le X = omega arith

pub plane_of-lt : (bit : Digit → ℕ) → ((d : Digit) → bit d ≤ 1) → (ds : List Digit) → plane_of bit ds < 2 ^ length ds
plane_of-lt bit most [] = omega arith
plane_of-lt bit most (d ∷ ds) =
    let double : 2 ^ suc (length ds) ≡ 2 * 2 ^ length ds = pow-suc 2 (length ds) ∙ mul_comm (2 ^ length ds) 2 in
    omega (arith, most d, plane_of-lt bit most ds)

-- at least one digit, and at most the first 64
abbrev pub clipped : List Digit → List Digit
clipped [] = X ∷ []
clipped (d ∷ ds) = d ∷ take 63 ds

pub clipped_some : (ds : List Digit) → 1 ≤ length (clipped ds)
clipped_some [] = omega arith
clipped_some (d ∷ ds) = omega arith

pub clipped_most : (ds : List Digit) → length (clipped ds) ≤ 64
clipped_most [] = omega arith
clipped_most (d ∷ ds) = omega (arith, length-take 63 ds)

-- The vector of 1 to 64 digits, that of place 0 first. (More are cut to the first 64, and none is one X, so
-- that each list has a vector.)
abbrev pub lv_of : List Digit → Lv
lv_of ds = record {
  width = length (clipped ds);
  ones = plane_of one_bit (clipped ds);
  unknown = plane_of unknown_bit (clipped ds);
  not_empty = clipped_some ds;
  at_most_64 = clipped_most ds;
  ones_fit = plane_of-lt one_bit one_bit-le (clipped ds);
  unknown_fit = plane_of-lt unknown_bit unknown_bit-le (clipped ds);
}
