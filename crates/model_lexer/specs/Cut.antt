-- That a text is cut into tokens.
use Rattle.std.specs.Prelude.{◌≡◌, ℕ, ◌+◌, ◌<◌, ◌≤◌, ◌==◌, true, false, List, [], ◌∷◌, length, take, drop, count_by, Some, None}
use Rattle.model_tree.specs.declared.faults.ParseStop.{ParseStop}
use Rattle.model_tree.specs.declared.faults.ParseStop.TheVariants as stop
use Rattle.model_lexer.specs.Tokens.{Token}
use Rattle.model_lexer.specs.declared.forms.Form.{Form}
use Rattle.model_lexer.specs.Forms.{form_of, is_passed}
use Rattle.model_lexer.specs.Meanings.{meaning}

-- the longest front that has a form is this one, of so many bytes
pub record IsPiece (bytes : List ℕ) (f : Form) (n : ℕ) : Type 0 where
  pub within : n ≤ length bytes
  pub formed : form_of (take n bytes) ≡ Some f
  pub longest : (m : ℕ) → n < m → m ≤ length bytes → form_of (take m bytes) ≡ None

-- the line of a place: a line ends at byte 10, and the first is 1
abbrev pub line_at : List ℕ → ℕ → ℕ
line_at text at = count_by (λ b. b == 10) (take at text) + 1

-- a token of a text: what it means, the place of its first byte, that of the byte behind its last, and its line
pub record Lexeme : Type 0 where
  pub token : Token
  pub start : ℕ
  pub end : ℕ
  pub line : ℕ

-- the longest front is a blank or a comment of so many bytes
abbrev pub IsGap : List ℕ → ℕ → Type 0
IsGap bytes n = (f : Form) × IsPiece bytes f n × (is_passed f ≡ true)

-- from one place of the text up to another there are only blanks and comments, of these lengths
abbrev pub AreGaps : List ℕ → ℕ → ℕ → List ℕ → Type 0
AreGaps text at up [] = at ≡ up
AreGaps text at up (n ∷ ns) = IsGap (drop at text) n × AreGaps text (at + n) up ns

abbrev pub IsPassed : List ℕ → ℕ → ℕ → Type 0
IsPassed text at up = (ns : List ℕ) × AreGaps text at up ns

-- where it starts, the token is the longest front that has a form, it means this within its limits, and its line is that of the place
pub record IsToken (text : List ℕ) (t : Lexeme) : Type 0 where
  pub form : Form
  pub len : ℕ
  pub piece : IsPiece (drop t.start text) form len
  pub meant : meaning form (take len (drop t.start text)) ≡ Some t.token
  pub ends : t.end ≡ t.start + len
  pub lined : t.line ≡ line_at text t.start

-- from one place of the text up to another there are these tokens, with blanks and comments alone before, between and behind them
abbrev pub CutUpTo : List ℕ → ℕ → ℕ → List Lexeme → Type 0
CutUpTo text at up [] = IsPassed text at up
CutUpTo text at up (t ∷ ts) = IsPassed text at t.start × IsToken text t × CutUpTo text t.end up ts

-- from this place to its end the text is these tokens
abbrev pub CutFrom : List ℕ → ℕ → List Lexeme → Type 0
CutFrom text at ts = CutUpTo text at (length text) ts

-- the text is these tokens
abbrev pub Cut : List ℕ → List Lexeme → Type 0
Cut text ts = CutFrom text 0 ts

-- bytes have no piece at their front, or one that is a token past its limits
abbrev pub IsStuck : List ℕ → Type 0
IsStuck bytes = (f : Form) (n : ℕ) → IsPiece bytes f n → (is_passed f ≡ false) × (meaning f (take n bytes) ≡ None)

-- why a text is refused: behind these tokens, blanks and comments the next piece, which is on this line, is no token
abbrev pub IsRefused : List ℕ → ParseStop → Type 0
IsRefused text stop.NoMemory = Unit {0}
IsRefused text (stop.Syntax line) = (ts : List Lexeme) × (at : ℕ) × CutUpTo text 0 at ts × (at < length text) × IsStuck (drop at text) × (line ≡ line_at text at)
