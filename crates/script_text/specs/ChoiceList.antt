-- What a list of choices says: one serial a line, or the first line that is no serial.
use Rattle.std.specs.Prelude.{ℕ, suc, ◌^◌, ◌==◌, nat_lt, if◌then◌else◌, List, [], ◌∷◌, map, Option, Some, None, option_and_then, Result, Ok, Err}
use Rattle.std.specs.List.{slice_split}
use Rattle.std.specs.Str.Lines.{strip_carriage_return}
use Rattle.text_lines.specs.Lines.{decimal_read, line_number}

-- what is behind the last line end is a line only where it is not empty
abbrev pub end_line : List ℕ → List (List ℕ)
end_line [] = []
end_line (b ∷ bs) = (b ∷ bs) ∷ []

abbrev pub without_empty_end : List (List ℕ) → List (List ℕ)
without_empty_end [] = []
without_empty_end (piece ∷ []) = end_line piece
without_empty_end (piece ∷ next ∷ more) = piece ∷ without_empty_end (next ∷ more)

-- the lines of a text: byte 10 ends a line, the last line may lack it, and one byte 13 at the end of a line is ignored
abbrev pub list_lines : List ℕ → List (List ℕ)
list_lines text = map strip_carriage_return (without_empty_end (slice_split (λ b. b == 10) text))

-- a serial is spelled in decimal, and is below 2^32
abbrev pub serial_within : ℕ → Option ℕ
serial_within n = if nat_lt n (2 ^ 32) then Some n else None

abbrev pub serial_read : List ℕ → Option ℕ
serial_read text = option_and_then serial_within (decimal_read text)

-- a line numbered n in front of those behind it; the first that is no serial decides
abbrev pub serial_in_front : ℕ → Option ℕ → Result (List ℕ) ℕ → Result (List ℕ) ℕ
serial_in_front n None later = Err (line_number n)
serial_in_front n (Some s) (Err line) = Err line
serial_in_front n (Some s) (Ok later) = Ok (s ∷ later)

abbrev pub serials_from : ℕ → List (List ℕ) → Result (List ℕ) ℕ
serials_from n [] = Ok []
serials_from n (l ∷ ls) = serial_in_front n (serial_read l) (serials_from (suc n) ls)

-- the serials of a text, or the line at which it does not read
abbrev pub read_choices : List ℕ → Result (List ℕ) ℕ
read_choices text = serials_from 1 (list_lines text)
