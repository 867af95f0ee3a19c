-- How the front of bytes is found: a help to the proofs, which no public clause speaks of.
use Rattle.std.specs.Prelude.{ℕ, ◌+◌, Bool, false, ◌&&◌, ◌==◌, if◌then◌else◌, List, [], ◌∷◌, length, slice_get, take, drop, Option, Some, None}
use Rattle.std.specs.List.{prefix_len}
use Rattle.model_tree.specs.declared.vocabulary.Symbol.{Symbol}
use Rattle.model_tree.specs.Vocabulary.{symbol_text}
use Rattle.model_tree.specs.Leaves.{is_letter, is_word_byte, is_print_byte}
use Rattle.model_lexer.specs.Tokens.{symbol_of}
use Rattle.model_lexer.specs.declared.forms.Form.{Form}
use Rattle.model_lexer.specs.declared.forms.Form.TheVariants as form
use Rattle.model_lexer.specs.declared.forms.Piece.{Piece}
use Rattle.model_lexer.specs.Forms.{is_blank_byte, is_comment_byte, is_digit, is_hex_digit, is_logic_byte}

abbrev pub piece : Form → ℕ → Piece
piece f n = record { form = f; len = n }

-- `0x` and a digit
abbrev pub opens_hexadecimal : List ℕ → Bool
opens_hexadecimal [] = false
opens_hexadecimal (a ∷ []) = false
opens_hexadecimal (a ∷ b ∷ []) = false
opens_hexadecimal (a ∷ b ∷ c ∷ bs) = ((a == 48) && (b == 120)) && is_hex_digit c

-- `//`
abbrev pub opens_comment : List ℕ → Bool
opens_comment [] = false
opens_comment (a ∷ []) = false
opens_comment (a ∷ b ∷ bs) = (a == 47) && (b == 47)

abbrev pub number_at : List ℕ → Piece
number_at bytes = if opens_hexadecimal bytes then piece form.Hexadecimal (prefix_len is_hex_digit (drop 2 bytes) + 2) else piece form.Decimal (prefix_len is_digit bytes)

-- so many bytes between quotes, if the byte behind them is the quote
abbrev pub closed_by : Form → ℕ → ℕ → Option ℕ → Option Piece
closed_by f quote n None = None
closed_by f quote n (Some b) = if b == quote then Some (piece f (n + 2)) else None

abbrev pub closed_at : Form → (ℕ → Bool) → ℕ → List ℕ → Option Piece
closed_at f p quote bs = closed_by f quote (prefix_len p bs) (slice_get bs (prefix_len p bs))

-- a symbol of two bytes, or else one of one
abbrev pub symbol_at : Option Symbol → Option Symbol → Option Piece
symbol_at (Some long) short = Some (piece form.Symbol (length (symbol_text long)))
symbol_at None (Some short) = Some (piece form.Symbol (length (symbol_text short)))
symbol_at None None = None

abbrev pub piece_at : List ℕ → Option Piece
piece_at [] = None
piece_at (b ∷ bs) =
    if is_letter b then Some (piece form.Word (prefix_len is_word_byte (b ∷ bs))) else (
    if is_digit b then Some (number_at (b ∷ bs)) else (
    if b == 39 then closed_at form.Logic is_logic_byte 39 bs else (
    if b == 34 then closed_at form.Text is_print_byte 34 bs else (
    if is_blank_byte b then Some (piece form.Blank 1) else (
    if opens_comment (b ∷ bs) then Some (piece form.Comment (prefix_len is_comment_byte (drop 2 (b ∷ bs)) + 2))
    else symbol_at (symbol_of (take 2 (b ∷ bs))) (symbol_of (take 1 (b ∷ bs))))))))
