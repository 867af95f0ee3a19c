use Rattle.std.specs.Prelude.{ℕ, if◌then◌else◌, List, [], ◌∷◌, map, reverse, codes, ⊤}
use Rattle.std.specs.Fmt.{decimal, signed_decimal}
use Rattle.logic_values.specs.declared.kinds.Digit.{Digit}
use Rattle.logic_values.specs.declared.kinds.Digit.TheVariants.{Zero, One, Z, X}
use Rattle.logic_values.specs.declared.kinds.Sign.TheVariants.{Signed}
use Rattle.logic_values.specs.declared.kinds.Value.{Value}
use Rattle.logic_values.specs.declared.kinds.Value.TheVariants.{Bool, Int, Uint, Logic, Vector, Moment, Handle, Pay}
use Rattle.logic_values.specs.Digits.{digits}
use Rattle.logic_values.specs.Integers.{number_of}

-- the byte that a digit is written as: `0`, `1`, `Z` or `X`
abbrev pub letter_of : Digit → ℕ
letter_of Zero = 48
letter_of One = 49
letter_of Z = 90
letter_of X = 88

-- the bytes of a value: a truth value is `0` or `1`, numbers are in decimal, with `-` before a negative one,
-- and the digits of a vector begin with the highest
abbrev pub text_of : Value → List ℕ
text_of (Bool b) = if b then codes "1" else codes "0"
text_of (Int width bits) = signed_decimal (number_of Signed bits)
text_of (Uint width bits) = decimal bits
text_of (Logic d) = letter_of d ∷ []
text_of (Vector v) = map letter_of (reverse (digits v))
text_of (Moment picoseconds) = decimal picoseconds
text_of (Handle h) = []
text_of (Pay p) = []

-- a handle has no text
abbrev pub HasText : Value → Type 0
HasText (Handle h) = ⊥
HasText (Pay p) = ⊥
HasText _ = ⊤
