-- The forms of the pieces of a text, whatever their limits on length and range.
use Rattle.std.specs.Prelude.{ℕ, Bool, true, false, ◌&&◌, ◌||◌, ◌==◌, if◌then◌else◌, nat_le, is_some, List, [], ◌∷◌, Option, Some, None}
use Rattle.std.specs.List.{list_all}
use Rattle.model_tree.specs.Leaves.{is_word, is_print_byte}
use Rattle.model_lexer.specs.Tokens.{symbol_of}
use Rattle.model_lexer.specs.declared.forms.Form.{Form}
use Rattle.model_lexer.specs.declared.forms.Form.TheVariants as form

-- a byte 9, 10, 13 or 32
abbrev pub is_blank_byte : ℕ → Bool
is_blank_byte b = ((b == 9) || (b == 10)) || ((b == 13) || (b == 32))

-- a byte that a comment may hold: any byte of a text but the end of a line
abbrev pub is_comment_byte : ℕ → Bool
is_comment_byte b = ((b == 9) || (b == 13)) || (nat_le 32 b && nat_le b 126)

abbrev pub is_digit : ℕ → Bool
is_digit b = nat_le 48 b && nat_le b 57

abbrev pub is_hex_digit : ℕ → Bool
is_hex_digit b = is_digit b || ((nat_le 65 b && nat_le b 70) || (nat_le 97 b && nat_le b 102))

-- `0`, `1`, `Z` or `X`
abbrev pub is_logic_byte : ℕ → Bool
is_logic_byte b = ((b == 48) || (b == 49)) || ((b == 90) || (b == 88))

-- one blank
abbrev pub is_blank : List ℕ → Bool
is_blank [] = false
is_blank (b ∷ []) = is_blank_byte b
is_blank (b ∷ c ∷ bs) = false

-- `//`, and what may stand behind it on its line
abbrev pub is_comment : List ℕ → Bool
is_comment [] = false
is_comment (a ∷ []) = false
is_comment (a ∷ b ∷ bs) = ((a == 47) && (b == 47)) && list_all is_comment_byte bs

-- digits, at least one
abbrev pub is_decimal : List ℕ → Bool
is_decimal [] = false
is_decimal (b ∷ bs) = is_digit b && list_all is_digit bs

-- `0x` and hexadecimal digits, at least one
abbrev pub is_hexadecimal : List ℕ → Bool
is_hexadecimal [] = false
is_hexadecimal (a ∷ []) = false
is_hexadecimal (a ∷ b ∷ []) = false
is_hexadecimal (a ∷ b ∷ c ∷ bs) = ((a == 48) && (b == 120)) && (is_hex_digit c && list_all is_hex_digit bs)

-- bytes of one kind, and a quote behind them
abbrev pub closes : (ℕ → Bool) → ℕ → List ℕ → Bool
closes p quote [] = false
closes p quote (b ∷ []) = b == quote
closes p quote (b ∷ c ∷ bs) = p b && closes p quote (c ∷ bs)

-- `0`, `1`, `Z` and `X` between single quotes
abbrev pub is_logic : List ℕ → Bool
is_logic [] = false
is_logic (b ∷ bs) = (b == 39) && closes is_logic_byte 39 bs

-- bytes from 32 to 126 without the double quote, between double quotes
abbrev pub is_text : List ℕ → Bool
is_text [] = false
is_text (b ∷ bs) = (b == 34) && closes is_print_byte 34 bs

-- the tests of all forms
abbrev pub tests : List (List ℕ → Bool)
tests = is_blank ∷ is_comment ∷ is_word ∷ is_decimal ∷ is_hexadecimal ∷ is_logic ∷ is_text ∷ (λ bytes. is_some (symbol_of bytes)) ∷ []

-- the form that bytes have, if they have one
abbrev pub form_of : List ℕ → Option Form
form_of bytes =
    if is_blank bytes then Some form.Blank else (
    if is_comment bytes then Some form.Comment else (
    if is_word bytes then Some form.Word else (
    if is_decimal bytes then Some form.Decimal else (
    if is_hexadecimal bytes then Some form.Hexadecimal else (
    if is_logic bytes then Some form.Logic else (
    if is_text bytes then Some form.Text else (
    if is_some (symbol_of bytes) then Some form.Symbol else None)))))))

-- what is no token is passed over: blanks and comments
abbrev pub is_passed : Form → Bool
is_passed form.Blank = true
is_passed form.Comment = true
is_passed form.Word = false
is_passed form.Decimal = false
is_passed form.Hexadecimal = false
is_passed form.Logic = false
is_passed form.Text = false
is_passed form.Symbol = false
