-- What words of a traffic file write: names, numbers of a range, and bytes; and what an access does.
use Rattle.std.specs.Prelude.{ℕ, ◌+◌, ◌-◌, ◌*◌, ◌%◌, ◌^◌, ◌==◌, ◌&&◌, Bool, nat_le, if◌then◌else◌, List, [], ◌∷◌, length, bytes_eq, codes, Option, Some, None, option_map, option_and_then}
use Rattle.std.specs.Char.{digit_value}
use Rattle.std.specs.List.{list_all}
use Rattle.model_tree.specs.Leaves.{is_word}
use Rattle.model_lexer.specs.Forms.{is_hex_digit}
use Rattle.text_lines.specs.Lines.{number_read}
use Rattle.text_lines.specs.declared.actions.BusAction.{BusAction}
use Rattle.text_lines.specs.declared.actions.BusAction.TheVariants as action

-- a name has a letter or `_`, then letters, digits and `_`, at most 64 bytes; the words of models are names here
abbrev pub name_read : List ℕ → Option (List ℕ)
name_read bytes = if is_word bytes && nat_le (length bytes) 64 then Some bytes else None

-- a number of a range, its ends included
abbrev pub in_range : ℕ → ℕ → ℕ → Option ℕ
in_range low high n = if nat_le low n && nat_le n high then Some n else None

abbrev pub number_between : ℕ → ℕ → List ℕ → Option ℕ
number_between low high bytes = option_and_then (in_range low high) (number_read bytes)

abbrev pub delay_read : List ℕ → Option ℕ
delay_read = number_between 1 (2 ^ 40 - 1)

abbrev pub time_read : List ℕ → Option ℕ
time_read = number_between 0 (2 ^ 40 - 1)

abbrev pub size_read : List ℕ → Option ℕ
size_read = number_between 1 (2 ^ 64 - 1)

abbrev pub length_read : List ℕ → Option ℕ
length_read = number_between 1 4096

-- bytes are written as two hexadecimal digits each, the higher one first; there are 1 to 4,096 of them
abbrev pub is_hex_text : List ℕ → Bool
is_hex_text digits = ((nat_le 2 (length digits) && nat_le (length digits) 8192) && ((length digits % 2) == 0)) && list_all is_hex_digit digits

abbrev pub bytes_written : List ℕ → List ℕ
bytes_written [] = []
bytes_written (high ∷ []) = []
bytes_written (high ∷ low ∷ more) = (digit_value high * 16 + digit_value low) ∷ bytes_written more

abbrev pub hex_read : List ℕ → Option (List ℕ)
hex_read digits = if is_hex_text digits then Some (bytes_written digits) else None

-- `read` and a length, or `write` and bytes
abbrev pub action_read : List ℕ → List ℕ → Option BusAction
action_read word what =
    if bytes_eq word (codes "read") then option_map (λ len. action.Get len) (length_read what) else (
    if bytes_eq word (codes "write") then option_map (λ bytes. action.Put bytes) (hex_read what) else None)

-- how many bytes it reads or writes
abbrev pub length_of : BusAction → ℕ
length_of (action.Get len) = len
length_of (action.Put bytes) = length bytes
