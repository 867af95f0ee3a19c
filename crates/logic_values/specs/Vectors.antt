use Rattle.std.specs.Prelude.{ℕ, zero, suc, ◌+◌, ◌*◌, ◌/◌, ◌%◌, List, [], ◌∷◌, ◌++◌, take, replicate}
use Rattle.logic_values.specs.declared.kinds.Digit.{Digit}
use Rattle.logic_values.specs.declared.kinds.Digit.TheVariants.{Zero, One}

-- An operator on vectors of one width works on each digit of one and the digit at the same place of the other.
abbrev pub digit_by_digit : (Digit → Digit → Digit) → List Digit → List Digit → List Digit
digit_by_digit f [] _ = []
digit_by_digit f (d ∷ ds) [] = []
digit_by_digit f (d ∷ ds) (e ∷ es) = f d e ∷ digit_by_digit f ds es

-- a bit as a digit
abbrev pub binary_digit : ℕ → Digit
binary_digit zero = Zero
binary_digit (suc _) = One

-- as many digits of a number in base 2, that of place 0 first
abbrev pub binary_digits : ℕ → ℕ → List Digit
binary_digits zero n = []
binary_digits (suc width) n = binary_digit (n % 2) ∷ binary_digits width (n / 2)

-- what a digit counts in a number: all but 1 count nothing
abbrev pub digit_value : Digit → ℕ
digit_value One = 1
digit_value _ = 0

-- the number of a list of digits, that of place 0 first
abbrev pub value_of : List Digit → ℕ
value_of [] = 0
value_of (d ∷ ds) = digit_value d + 2 * value_of ds

-- a list of digits at another width: what is above is cut, and what lacks there is 0
abbrev pub resized : ℕ → List Digit → List Digit
resized width ds = take width (ds ++ replicate width Zero)
