-- The parts of a text with clocked threads: its tokens, one by one, and its clocked threads; and which tokens they are.
--
-- A clocked thread is `cthread` NAME chan `.` ( `pos` | `neg` ), a reset at once and one at an edge where they are written, and a
-- block, in which `tick` [ NUM ] `;` may stand anywhere. What an expression says that stands between the parentheses of chan, and
-- all that stands in the block, is judged where the expansion is read.
use Rattle.std.specs.Prelude.{◌≡◌, ℕ, zero, suc, ◌+◌, ◌&&◌, ◌||◌, Bool, true, false, List, [], ◌∷◌, ◌++◌, length, codes, nat_le, Option, Some, None}
use Rattle.std.specs.Str.{bytes_eq}
use Rattle.model_lexer.specs.ModelTree.declared.vocabulary.Word.TheVariants as w
use Rattle.model_lexer.specs.ModelTree.declared.vocabulary.Symbol.TheVariants as s
use Rattle.model_lexer.specs.Tokens.{Token, Tokens, name, number, word, symbol}
use Rattle.clocked.specs.declared.words.NewWord.{NewWord}
use Rattle.clocked.specs.declared.words.NewWord.TheVariants as n
use Rattle.clocked.specs.Words.{Sign, new, old_name, a_number, truth_value, left_brace, right_brace, left_paren, right_paren, dot, at_sign, semicolon, other, sign_of, is_new, new_word, IsOldName}

-- ---- a clocked thread

-- a reset: a signal, and the level at which it resets
pub record Reset : Type 0 where
  pub signal : List ℕ
  pub level : Bool

-- a reset as it is written: its word, its signal and its level, each with its line
pub record WrittenReset : Type 0 where
  pub reset : Reset
  pub word_line : ℕ
  pub signal_line : ℕ
  pub level_line : ℕ

-- what stands behind the name of a channel: nothing; `@` and a number; or `@` and tokens between parentheses
pub data Place : Type 0 where
  first : Place
  numbered : (at v line : ℕ) → Place
  computed : (at from : ℕ) → Tokens → (to : ℕ) → Place

-- what stands in a block: a token, or a tick, with its number and that one's line where it is written, and the line of its `;`
pub data Piece : Type 0 where
  plain : Token → ℕ → Piece
  tick : (line : ℕ) → Option (ℕ × ℕ) → (end : ℕ) → Piece

-- a clocked thread: what is written of it, in this order, with the lines
pub record Clocked : Type 0 where
  pub line : ℕ
  pub name : List ℕ
  pub name_line : ℕ
  pub channel : List ℕ
  pub channel_line : ℕ
  pub place : Place
  pub dot_line : ℕ
  pub edge : List ℕ
  pub edge_line : ℕ
  pub asynchronous : Option WrittenReset
  pub synchronous : Option WrittenReset
  pub from : ℕ
  pub body : List Piece
  pub to : ℕ

pub data Part : Type 0 where
  kept : Token → ℕ → Part
  clocked : Clocked → Part

-- a text: the lines of `language 3 ;`, and its parts
pub record Text : Type 0 where
  pub word_line : ℕ
  pub number_line : ℕ
  pub end_line : ℕ
  pub parts : List Part

-- ---- its tokens

abbrev pub truth : Bool → Token
truth true = word w.True
truth false = word w.False

abbrev pub written_place : Place → Tokens
written_place first = []
written_place (numbered at v line) = (symbol s.At, at) ∷ (number v, line) ∷ []
written_place (computed at from inner to) = (symbol s.At, at) ∷ (symbol s.LeftParen, from) ∷ (inner ++ (symbol s.RightParen, to) ∷ [])

-- a reset behind this word, if it is written
abbrev pub written_reset : NewWord → Option WrittenReset → Tokens
written_reset r None = []
written_reset r (Some x) = (new_word r, x.word_line) ∷ (name x.reset.signal, x.signal_line) ∷ (truth x.reset.level, x.level_line) ∷ []

abbrev pub written_piece : Piece → Tokens
written_piece (plain t line) = (t, line) ∷ []
written_piece (tick line None end) = (new_word n.Tick, line) ∷ (symbol s.Semicolon, end) ∷ []
written_piece (tick line (Some v) end) = (new_word n.Tick, line) ∷ (number v.0, v.1) ∷ (symbol s.Semicolon, end) ∷ []

abbrev pub written_body : List Piece → Tokens
written_body [] = []
written_body (p ∷ ps) = written_piece p ++ written_body ps

-- the channel and the edge of a clocked thread
abbrev pub clock_of : Clocked → Tokens
clock_of f = (name f.channel, f.channel_line) ∷ (written_place f.place ++ (symbol s.Dot, f.dot_line) ∷ (name f.edge, f.edge_line) ∷ [])

-- a clocked thread up to the `{` of its block
abbrev pub written_head : Clocked → Tokens
written_head f =
    (new_word n.Cthread, f.line) ∷ (name f.name, f.name_line) ∷ (clock_of f
    ++ (written_reset n.AsyncReset f.asynchronous ++ (written_reset n.SyncReset f.synchronous ++ (symbol s.LeftBrace, f.from) ∷ [])))

abbrev pub written_part : Part → Tokens
written_part (kept t line) = (t, line) ∷ []
written_part (clocked f) = written_head f ++ (written_body f.body ++ (symbol s.RightBrace, f.to) ∷ [])

abbrev pub written_parts : List Part → Tokens
written_parts [] = []
written_parts (p ∷ ps) = written_part p ++ written_parts ps

-- a text of language 3
abbrev pub written : Text → Tokens
written x = (name (codes "language"), x.word_line) ∷ (number 3, x.number_line) ∷ (symbol s.Semicolon, x.end_line) ∷ written_parts x.parts

-- ---- what is asked of them

-- what is said of the value, where there has to be one
abbrev pub Has : {A : Type 0} → Option A → (A → Type 0) → Type 0
Has None P = ⊥
Has (Some x) P = P x

-- what is said of the value, where there is one
abbrev pub IfWritten : {A : Type 0} → Option A → (A → Type 0) → Type 0
IfWritten None P = Unit {0}
IfWritten (Some x) P = P x

-- one less, where there is one
abbrev pub one_less : ℕ → Option ℕ
one_less zero = None
one_less (suc k) = Some k

-- how many parentheses are open behind a token, where so many were before: none are where it closes one that is not open, or is a new word
abbrev pub parens_behind : Sign → ℕ → Option ℕ
parens_behind (new u) k = None
parens_behind (old_name x) k = Some k
parens_behind (a_number v) k = Some k
parens_behind (truth_value b) k = Some k
parens_behind left_brace k = Some k
parens_behind right_brace k = Some k
parens_behind left_paren k = Some (k + 1)
parens_behind right_paren k = one_less k
parens_behind dot k = Some k
parens_behind at_sign k = Some k
parens_behind semicolon k = Some k
parens_behind other k = Some k

-- the same of braces
abbrev pub braces_behind : Sign → ℕ → Option ℕ
braces_behind (new u) k = None
braces_behind (old_name x) k = Some k
braces_behind (a_number v) k = Some k
braces_behind (truth_value b) k = Some k
braces_behind left_brace k = Some (k + 1)
braces_behind right_brace k = one_less k
braces_behind left_paren k = Some k
braces_behind right_paren k = Some k
braces_behind dot k = Some k
braces_behind at_sign k = Some k
braces_behind semicolon k = Some k
braces_behind other k = Some k

-- the parentheses of these tokens are closed, where so many were open before, and none of them is a new word
abbrev pub AreClosed : ℕ → Tokens → Type 0
AreClosed k [] = k ≡ 0
AreClosed k (t ∷ ts) = Has (parens_behind (sign_of t.0) k) (λ m. AreClosed m ts)

abbrev pub IsPlace : Place → Type 0
IsPlace first = Unit {0}
IsPlace (numbered at v line) = Unit {0}
IsPlace (computed at from inner to) = AreClosed 0 inner

-- a number that a tick may have
abbrev pub is_count : ℕ → Bool
is_count v = nat_le 1 v && nat_le v 4294967295

-- the braces of these pieces are closed, where so many were open before; they hold no new word but that of a tick, and each tick has its number
abbrev pub IsBody : ℕ → List Piece → Type 0
IsBody k [] = k ≡ 0
IsBody k (plain t line ∷ ps) = Has (braces_behind (sign_of t) k) (λ m. IsBody m ps)
IsBody k (tick line v end ∷ ps) = IfWritten v (λ x. is_count x.0 ≡ true) × IsBody k ps

-- `pos` or `neg`
abbrev pub is_edge : List ℕ → Bool
is_edge x = bytes_eq x (codes "pos") || bytes_eq x (codes "neg")

-- the name of the method that resets a thread of this name at once
abbrev pub reset_name : List ℕ → List ℕ
reset_name x = x ++ codes "_areset"

abbrev pub fits_reset : List ℕ → Bool
fits_reset x = nat_le (length x + 7) 64

pub record IsClocked (f : Clocked) : Type 0 where
  pub name : IsOldName f.name
  pub channel : IsOldName f.channel
  pub place : IsPlace f.place
  pub edge : is_edge f.edge ≡ true
  pub asynchronous : IfWritten f.asynchronous (λ x. IsOldName x.reset.signal)
  pub fits : IfWritten f.asynchronous (λ x. fits_reset f.name ≡ true)
  pub synchronous : IfWritten f.synchronous (λ x. IsOldName x.reset.signal)
  pub body : IsBody 0 f.body

abbrev pub IsPart : Part → Type 0
IsPart (kept t line) = is_new t ≡ false
IsPart (clocked f) = IsClocked f

abbrev pub AreParts : List Part → Type 0
AreParts [] = Unit {0}
AreParts (p ∷ ps) = IsPart p × AreParts ps
