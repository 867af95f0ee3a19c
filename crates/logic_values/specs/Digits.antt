use Rattle.std.specs.Prelude.{ℕ, zero, suc, ◌/◌, ◌%◌, List, [], ◌∷◌}
use Rattle.logic_values.specs.declared.kinds.Digit.{Digit}
use Rattle.logic_values.specs.declared.kinds.Digit.TheVariants.{Zero, One, Z, X}
use Rattle.logic_values.specs.declared.planes.Lv.{Lv}

-- the digit of a bit of the plane of unknowns and a bit of the plane of ones
abbrev pub digit_of_bits : ℕ → ℕ → Digit
digit_of_bits zero zero = Zero
digit_of_bits zero (suc _) = One
digit_of_bits (suc _) zero = Z
digit_of_bits (suc _) (suc _) = X

-- the lowest n digits of two planes, that of place 0 first
abbrev pub digits_in : ℕ → ℕ → ℕ → List Digit
digits_in zero unknown ones = []
digits_in (suc n) unknown ones = digit_of_bits (unknown % 2) (ones % 2) ∷ digits_in n (unknown / 2) (ones / 2)

-- the digits of a vector, that of place 0 first
abbrev pub digits : Lv → List Digit
digits v = digits_in v.width v.unknown v.ones
