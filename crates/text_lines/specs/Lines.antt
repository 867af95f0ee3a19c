-- The lines of a text, their words and comments, and the numbers that words write.
use Rattle.std.specs.Prelude.{ℕ, ◌-◌, ◌^◌, min, Bool, false, not, ◌==◌, if◌then◌else◌, List, [], ◌∷◌, map, filter, length, drop, Option, None}
use Rattle.std.specs.List.{slice_split}
use Rattle.std.specs.Str.Lines.{strip_carriage_return}
use Rattle.std.specs.Str.Parse.{digits_value}
use Rattle.model_lexer.specs.Forms.{is_decimal, is_hexadecimal}
use Rattle.model_lexer.specs.Meanings.{number_within}

-- the lines of a text: byte 10 ends a line, the last line may lack it, and one byte 13 at the end of a line is ignored
abbrev pub lines : List ℕ → List (List ℕ)
lines text = map strip_carriage_return (slice_split (λ b. b == 10) text)

-- the words of a line: what stands between spaces
abbrev pub words : List ℕ → List (List ℕ)
words bytes = filter (λ word. not (length word == 0)) (slice_split (λ b. b == 32) bytes)

-- a comment has `#` in its first column
abbrev pub is_comment : List ℕ → Bool
is_comment [] = false
is_comment (first ∷ rest) = first == 35

-- the number that bytes write in decimal, where it is below 2^64
abbrev pub decimal_read : List ℕ → Option ℕ
decimal_read bytes = if is_decimal bytes then number_within (digits_value 10 bytes) else None

-- the number that bytes write as a number of a model does: in hexadecimal behind `0x`, or in decimal
abbrev pub number_read : List ℕ → Option ℕ
number_read bytes = if is_hexadecimal bytes then number_within (digits_value 16 (drop 2 bytes)) else decimal_read bytes

-- lines count from 1, and a number past 32 bits stands at the greatest one
abbrev pub line_number : ℕ → ℕ
line_number n = min n (2 ^ 32 - 1)
