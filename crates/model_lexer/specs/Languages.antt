-- The tokens of a text as the version of its language has them. A text whose first token is the name `language` is of language 2: its
-- reserved words are those of language 1 and three more, and `fs` is a unit behind a number that is not the place of a port's channel.
use Rattle.std.specs.Prelude.{ℕ, Bool, false, if◌then◌else◌, List, [], ◌∷◌, Option, Some, None, codes}
use Rattle.std.specs.Str.{bytes_eq}
use Rattle.model_tree.specs.Vocabulary.{later_word_of}
use Rattle.model_tree.specs.declared.vocabulary.Word.{Word}
use Rattle.model_tree.specs.declared.vocabulary.Word.TheVariants as w
use Rattle.model_tree.specs.declared.vocabulary.Symbol.{Symbol}
use Rattle.model_tree.specs.declared.vocabulary.Symbol.TheVariants as s
use Rattle.model_lexer.specs.Tokens.{Token, Tokens, name, number, logic, quoted, word, symbol}

-- what stands in front of a token: a number behind which a unit may stand; an `@`; or anything else
pub data Front : Type 0 where
  behind_number : Front
  behind_at : Front
  behind_other : Front

abbrev pub behind_symbol : Symbol → Front
behind_symbol s.At = behind_at
behind_symbol s.LessEqual = behind_other
behind_symbol s.GreaterEqual = behind_other
behind_symbol s.EqualEqual = behind_other
behind_symbol s.NotEqual = behind_other
behind_symbol s.ShiftLeft = behind_other
behind_symbol s.ShiftRight = behind_other
behind_symbol s.AndAnd = behind_other
behind_symbol s.OrOr = behind_other
behind_symbol s.Arrow = behind_other
behind_symbol s.LeftBrace = behind_other
behind_symbol s.RightBrace = behind_other
behind_symbol s.LeftParen = behind_other
behind_symbol s.RightParen = behind_other
behind_symbol s.LeftBracket = behind_other
behind_symbol s.RightBracket = behind_other
behind_symbol s.Less = behind_other
behind_symbol s.Greater = behind_other
behind_symbol s.Plus = behind_other
behind_symbol s.Minus = behind_other
behind_symbol s.Star = behind_other
behind_symbol s.Slash = behind_other
behind_symbol s.Percent = behind_other
behind_symbol s.Ampersand = behind_other
behind_symbol s.Bar = behind_other
behind_symbol s.Caret = behind_other
behind_symbol s.Tilde = behind_other
behind_symbol s.Bang = behind_other
behind_symbol s.Equal = behind_other
behind_symbol s.Semicolon = behind_other
behind_symbol s.Comma = behind_other
behind_symbol s.Dot = behind_other
behind_symbol s.Colon = behind_other

-- the number behind an `@` is a place
abbrev pub number_behind : Front → Front
number_behind behind_at = behind_other
number_behind behind_number = behind_number
number_behind behind_other = behind_number

abbrev pub behind : Front → Token → Front
behind f (name x) = behind_other
behind f (number n) = number_behind f
behind f (logic ds) = behind_other
behind f (quoted x) = behind_other
behind f (word u) = behind_other
behind f (symbol u) = behind_symbol u

-- a name in language 2: one of its reserved words, or a name
abbrev pub word_or_same : Option Word → List ℕ → Token
word_or_same None x = name x
word_or_same (Some u) x = word u

abbrev pub later_name : List ℕ → Token
later_name x = word_or_same (later_word_of x) x

abbrev pub unit_or_name : Front → List ℕ → Token
unit_or_name behind_number x = if bytes_eq x (codes "fs") then word w.Fs else later_name x
unit_or_name behind_at x = later_name x
unit_or_name behind_other x = later_name x

abbrev pub later_token : Front → Token → Token
later_token f (name x) = unit_or_name f x
later_token f (number n) = number n
later_token f (logic ds) = logic ds
later_token f (quoted x) = quoted x
later_token f (word u) = word u
later_token f (symbol u) = symbol u

-- the tokens of a text of language 2, of which that is in front
abbrev pub in_second : Front → Tokens → Tokens
in_second f [] = []
in_second f (t ∷ ts) = (later_token f t.0, t.1) ∷ in_second (behind f t.0) ts

-- whether this token, as the first one, says that a text is of language 2
abbrev pub says_language : Token → Bool
says_language (name x) = bytes_eq x (codes "language")
says_language (number n) = false
says_language (logic ds) = false
says_language (quoted x) = false
says_language (word u) = false
says_language (symbol u) = false

-- whether the tokens are those of a text of language 2
abbrev pub says_second : Tokens → Bool
says_second [] = false
says_second (t ∷ ts) = says_language t.0

abbrev pub in_language : Tokens → Tokens
in_language ts = if says_second ts then in_second behind_other ts else ts
