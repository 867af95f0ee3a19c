-- Tokens on a page: each on its line, with a blank behind it.
use Rattle.std.specs.Prelude.{ℕ, ◌-◌, List, [], ◌∷◌, ◌++◌, map, reverse, replicate}
use Rattle.std.specs.Fmt.{decimal}
use Rattle.model_tree.specs.LogicValues.ValueText.{letter_of}
use Rattle.model_tree.specs.Vocabulary.{word_text, symbol_text}
use Rattle.model_lexer.specs.Tokens.{Token, Tokens, name, number, logic, quoted, word, symbol}
use Rattle.clocked.specs.Expanded.{line_behind}

-- bytes between two quotes
abbrev pub between : ℕ → List ℕ → List ℕ
between quote bytes = quote ∷ (bytes ++ quote ∷ [])

-- how a token is written: numbers in decimal, of a logic literal the highest digit first
abbrev pub spelled : Token → List ℕ
spelled (name x) = x
spelled (number n) = decimal n
spelled (logic ds) = between 39 (map letter_of (reverse ds))
spelled (quoted x) = between 34 x
spelled (word u) = word_text u
spelled (symbol u) = symbol_text u

-- so many ends of lines
abbrev pub line_ends : ℕ → List ℕ
line_ends count = replicate count 10

-- a token on its line, behind what ends on that one
abbrev pub token_at : ℕ → Token → ℕ → List ℕ
token_at from t line = line_ends (line - from) ++ (spelled t ++ 32 ∷ [])

abbrev pub tokens_from : ℕ → Tokens → List ℕ
tokens_from from [] = []
tokens_from from (t ∷ ts) = token_at from t.0 t.1 ++ tokens_from t.1 ts

-- tokens from the first line on, and as many ends of lines behind them as it takes to come to the last
abbrev pub page : ℕ → Tokens → List ℕ
page last ts = tokens_from 1 ts ++ line_ends (last - line_behind 1 ts)
