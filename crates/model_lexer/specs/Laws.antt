-- What holds of every cut of a text.
use Rattle.std.specs.Prelude.{◌≡◌, ℕ, ◌<◌, ◌≤◌, false, List, [], ◌∷◌, take, map, None}
use Rattle.model_lexer.specs.Tokens.{Tokens}
use Rattle.model_lexer.specs.declared.forms.Form.{Form}
use Rattle.model_lexer.specs.Forms.{is_passed}
use Rattle.model_lexer.specs.Meanings.{meaning}
use Rattle.model_lexer.specs.Cut.{IsPiece, Lexeme}

-- the tokens as productions speak of them, each with its line
abbrev pub with_lines : List Lexeme → Tokens
with_lines ts = map (λ t. (t.token, t.line)) ts

-- tokens one behind another, each with at least one byte, from this place up to that one
abbrev pub AreInOrder : ℕ → ℕ → List Lexeme → Type 0
AreInOrder from up [] = from ≤ up
AreInOrder from up (t ∷ ts) = (from ≤ t.start) × (t.start < t.end) × AreInOrder t.end up ts

-- the bytes have a piece at their front that is no shorter than this
abbrev pub HasPiece : List ℕ → ℕ → Type 0
HasPiece bytes m = (f : Form) × (n : ℕ) × IsPiece bytes f n × (m ≤ n)

-- the longest front has a token's form, and is past the form's limits
abbrev pub IsPastLimit : List ℕ → Form → ℕ → Type 0
IsPastLimit bytes f n = IsPiece bytes f n × (is_passed f ≡ false) × (meaning f (take n bytes) ≡ None)
