use Rattle.std.specs.Prelude.{ℕ, ◌+◌, ◌-◌, ◌*◌, ◌%◌, ◌^◌, nat_lt, ◌==◌, if◌then◌else◌, Bool, ℤ, pos, neg_ℤ, int_lt, int_div, int_rem, Option, Some, None}
use Rattle.std.specs.Int.{w64, cast_signed, cast_unsigned, int_shr}
use Rattle.logic_values.specs.declared.kinds.Sign.{Sign}
use Rattle.logic_values.specs.declared.kinds.Sign.TheVariants.{Signed, Unsigned}

-- An integer is a number modulo 2^64, kept in 64 bits, and read with its sign.

-- the number that 64 bits stand for
abbrev pub number_of : Sign → ℕ → ℤ
number_of Signed bits = cast_signed w64 bits
number_of Unsigned bits = pos bits

-- the 64 bits of a number from -2^63 to 2^64 - 1
abbrev pub bits_of : ℤ → ℕ
bits_of z = cast_unsigned w64 z

-- modulo 2^64, which is the same for both signs
abbrev pub sum_of : ℕ → ℕ → ℕ
sum_of a b = (a + b) % 2 ^ 64

abbrev pub difference_of : ℕ → ℕ → ℕ
difference_of a b = (a + (2 ^ 64 - b)) % 2 ^ 64

abbrev pub product_of : ℕ → ℕ → ℕ
product_of a b = (a * b) % 2 ^ 64

-- rounded towards 0; there is none by 0
abbrev pub quotient_of : Sign → ℕ → ℕ → Option ℕ
quotient_of s a b = if b == 0 then None else Some (bits_of (int_div (number_of s a) (number_of s b)))

-- what that quotient leaves, with the sign of a
abbrev pub remainder_of : Sign → ℕ → ℕ → Option ℕ
remainder_of s a b = if b == 0 then None else Some (bits_of (int_rem (number_of s a) (number_of s b)))

-- n places up: 2^n times as much, modulo 2^64
abbrev pub shifted_up : ℕ → ℕ → ℕ
shifted_up a n = (a * 2 ^ n) % 2 ^ 64

-- n places down: the number divided by 2^n and rounded down, so that the sign stays
abbrev pub shifted_down : Sign → ℕ → ℕ → ℕ
shifted_down s a n = bits_of (int_shr (number_of s a) n)

abbrev pub is_less : Sign → ℕ → ℕ → Bool
is_less s a b = int_lt (number_of s a) (number_of s b)

-- the number that `width` bits stand for in two's complement
abbrev pub twos_complement : ℕ → ℕ → ℤ
twos_complement width low = if nat_lt (2 * low) (2 ^ width) then pos low else neg_ℤ (pos (2 ^ width - low))

-- the lowest bits of a, read with the sign, as 64 bits
abbrev pub cut_of : Sign → ℕ → ℕ → ℕ
cut_of Signed width a = bits_of (twos_complement width (a % 2 ^ width))
cut_of Unsigned width a = a % 2 ^ width
