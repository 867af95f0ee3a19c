-- What a text with clocked threads becomes, as text.
use Rattle.std.specs.Prelude.{ℕ, Bool, true, false, ◌&&◌, ◌==◌, List, [], ◌∷◌, codes}
use Rattle.std.specs.Str.{bytes_eq}
use Rattle.model_lexer.specs.ModelTree.declared.vocabulary.Symbol.{Symbol}
use Rattle.model_lexer.specs.ModelTree.declared.vocabulary.Symbol.TheVariants as s
use Rattle.model_lexer.specs.Tokens.{Token, Tokens, name, number, logic, quoted, word, symbol}
use Rattle.model_lexer.specs.Cut.{Lexeme, Cut}
use Rattle.model_lexer.specs.Laws.{with_lines}
use Rattle.clocked.specs.Expanded.{Expands}

-- the text is one of language 3, and its tokens become those of this text, each on its line
abbrev pub Becomes : List ℕ → List ℕ → Type 0
Becomes text out = (ts : List Lexeme) × (us : List Lexeme) × Cut text ts × Cut out us × Expands (with_lines ts) (with_lines us)

-- ---- which texts are asked for what they become

abbrev pub is_language : Token → Bool
is_language (name x) = bytes_eq x (codes "language")
is_language (number n) = false
is_language (logic ds) = false
is_language (quoted x) = false
is_language (word u) = false
is_language (symbol u) = false

abbrev pub is_three : Token → Bool
is_three (name x) = false
is_three (number n) = n == 3
is_three (logic ds) = false
is_three (quoted x) = false
is_three (word u) = false
is_three (symbol u) = false

abbrev pub is_end_symbol : Symbol → Bool
is_end_symbol s.Semicolon = true
is_end_symbol u = false

abbrev pub is_end : Token → Bool
is_end (name x) = false
is_end (number n) = false
is_end (logic ds) = false
is_end (quoted x) = false
is_end (word u) = false
is_end (symbol u) = is_end_symbol u

-- whether tokens begin with `language 3 ;`
abbrev pub says_third : Tokens → Bool
says_third [] = false
says_third (t ∷ []) = false
says_third (t ∷ u ∷ []) = false
says_third (t ∷ u ∷ v ∷ ts) = is_language t.0 && (is_three u.0 && is_end v.0)
