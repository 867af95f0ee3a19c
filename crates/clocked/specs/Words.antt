-- The words of clocked threads. They are names to the lexer, and stand in no text but as a clocked thread has them.
use Rattle.std.specs.Prelude.{◌≡◌, ℕ, Bool, true, false, List, codes, Option, Some, None, find}
use Rattle.std.specs.Str.{bytes_eq}
use Rattle.model_lexer.specs.ModelTree.declared.vocabulary.Word.{Word}
use Rattle.model_lexer.specs.ModelTree.declared.vocabulary.Word.TheVariants as w
use Rattle.model_lexer.specs.ModelTree.declared.vocabulary.Symbol.{Symbol}
use Rattle.model_lexer.specs.ModelTree.declared.vocabulary.Symbol.TheVariants as s
use Rattle.model_lexer.specs.Tokens.{Token, name, number, logic, quoted, word, symbol}
use Rattle.clocked.specs.declared.words.NewWord.{NewWord}
use Rattle.clocked.specs.declared.words.NewWord.TheVariants as n
use Rattle.clocked.specs.declared.words.TheConstants.{NEW_WORDS}

-- how a new word is written
abbrev pub new_word_text : NewWord → List ℕ
new_word_text n.Cthread = codes "cthread"
new_word_text n.Tick = codes "tick"
new_word_text n.AsyncReset = codes "async_reset"
new_word_text n.SyncReset = codes "sync_reset"
new_word_text n.TickCount = codes "tick_count"
new_word_text n.TickReset = codes "tick_reset"
new_word_text n.TickAgain = codes "tick_again"

-- the first of these words that the bytes spell, if they spell one
abbrev pub new_spelled : List NewWord → List ℕ → Option NewWord
new_spelled words bytes = find (λ w. bytes_eq (new_word_text w) bytes) words

-- the new word that these bytes spell, if they spell one
unfoldable pub new_word_of : List ℕ → Option NewWord
new_word_of bytes = new_spelled NEW_WORDS bytes

-- the token that a new word is
abbrev pub new_word : NewWord → Token
new_word w = name (new_word_text w)

-- the bytes are no new word
abbrev pub IsOldName : List ℕ → Type 0
IsOldName bytes = new_word_of bytes ≡ None

-- ---- tokens, as clocked threads tell them apart

pub data Sign : Type 0 where
  new : NewWord → Sign
  old_name : List ℕ → Sign
  a_number : ℕ → Sign
  truth_value : Bool → Sign
  left_brace : Sign
  right_brace : Sign
  left_paren : Sign
  right_paren : Sign
  dot : Sign
  at_sign : Sign
  semicolon : Sign
  other : Sign

abbrev pub sign_of_name : Option NewWord → List ℕ → Sign
sign_of_name None bytes = old_name bytes
sign_of_name (Some w) bytes = new w

abbrev pub sign_of_word : Word → Sign
sign_of_word w.True = truth_value true
sign_of_word w.False = truth_value false
sign_of_word u = other

abbrev pub sign_of_symbol : Symbol → Sign
sign_of_symbol s.LeftBrace = left_brace
sign_of_symbol s.RightBrace = right_brace
sign_of_symbol s.LeftParen = left_paren
sign_of_symbol s.RightParen = right_paren
sign_of_symbol s.Dot = dot
sign_of_symbol s.At = at_sign
sign_of_symbol s.Semicolon = semicolon
sign_of_symbol u = other

abbrev pub sign_of : Token → Sign
sign_of (name bytes) = sign_of_name (new_word_of bytes) bytes
sign_of (number v) = a_number v
sign_of (logic digits) = other
sign_of (quoted bytes) = other
sign_of (word u) = sign_of_word u
sign_of (symbol u) = sign_of_symbol u

-- whether a token is a new word
abbrev pub is_new_sign : Sign → Bool
is_new_sign (new w) = true
is_new_sign (old_name bytes) = false
is_new_sign (a_number v) = false
is_new_sign (truth_value b) = false
is_new_sign left_brace = false
is_new_sign right_brace = false
is_new_sign left_paren = false
is_new_sign right_paren = false
is_new_sign dot = false
is_new_sign at_sign = false
is_new_sign semicolon = false
is_new_sign other = false

abbrev pub is_new : Token → Bool
is_new t = is_new_sign (sign_of t)
