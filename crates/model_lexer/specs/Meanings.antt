-- What bytes of a form mean, if they keep the form's limits on length and range.
use Rattle.std.specs.Prelude.{ℕ, ◌-◌, ◌==◌, ◌&&◌, if◌then◌else◌, nat_le, nat_lt, List, length, take, drop, map, reverse, Option, Some, None, option_map}
use Rattle.std.specs.Str.Parse.{digits_value}
use Rattle.model_tree.specs.LogicValues.declared.kinds.Digit.{Digit}
use Rattle.model_tree.specs.LogicValues.declared.kinds.Digit.TheVariants as digit
use Rattle.model_tree.specs.Vocabulary.{word_of}
use Rattle.model_tree.specs.Leaves.{is_print_text}
use Rattle.model_tree.specs.Limits.{is_number}
use Rattle.model_lexer.specs.Tokens.{Token, number, logic, quoted, symbol, symbol_of, word_or_name}
use Rattle.model_lexer.specs.declared.forms.Form.{Form}
use Rattle.model_lexer.specs.declared.forms.Form.TheVariants as form

-- the number, if it is below 2^64
abbrev pub number_within : ℕ → Option ℕ
number_within n = if is_number n then Some n else None

-- the logic digit that a byte writes; what writes no other one is X
abbrev pub logic_digit : ℕ → Digit
logic_digit b = if b == 48 then digit.Zero else (if b == 49 then digit.One else (if b == 90 then digit.Z else digit.X))

-- the digits that bytes write, that of place 0, the rightmost, first
abbrev pub logic_digits : List ℕ → List Digit
logic_digits bytes = reverse (map logic_digit bytes)

-- the digits, if they are 1 to 64
abbrev pub logic_within : List ℕ → Option (List Digit)
logic_within bytes = if nat_lt 0 (length bytes) && nat_le (length bytes) 64 then Some (logic_digits bytes) else None

-- the text, if it has at most 120 bytes
abbrev pub text_within : List ℕ → Option Token
text_within bytes = if is_print_text bytes then Some (quoted bytes) else None

-- what stands between the quotes
abbrev pub inner : List ℕ → List ℕ
inner bytes = take (length bytes - 2) (drop 1 bytes)

-- a word is reserved, or a name of at most 64 bytes
abbrev pub meaning : Form → List ℕ → Option Token
meaning form.Blank bytes = None
meaning form.Comment bytes = None
meaning form.Word bytes = word_or_name (word_of bytes) bytes
meaning form.Decimal bytes = option_map number (number_within (digits_value 10 bytes))
meaning form.Hexadecimal bytes = option_map number (number_within (digits_value 16 (drop 2 bytes)))
meaning form.Logic bytes = option_map logic (logic_within (inner bytes))
meaning form.Text bytes = text_within (inner bytes)
meaning form.Symbol bytes = option_map symbol (symbol_of bytes)
