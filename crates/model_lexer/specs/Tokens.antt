-- The tokens of a text: what each means, and their limits.
use Rattle.std.specs.Prelude.{ℕ, Bool, true, ◌&&◌, if◌then◌else◌, List, [], ◌∷◌, length, nat_lt, nat_le, Option, Some, None, find}
use Rattle.std.specs.Str.{bytes_eq}
use Rattle.model_tree.specs.SimTime.declared.moments.Unit.{Unit as TimeUnit}
use Rattle.model_tree.specs.SimTime.declared.moments.Unit.TheVariants as unit
use Rattle.model_tree.specs.LogicValues.declared.kinds.Digit.{Digit}
use Rattle.model_tree.specs.declared.vocabulary.Word.{Word}
use Rattle.model_tree.specs.declared.vocabulary.Word.TheVariants as w
use Rattle.model_tree.specs.declared.vocabulary.Symbol.{Symbol}
use Rattle.model_tree.specs.declared.vocabulary.TheConstants.{SYMBOLS}
use Rattle.model_tree.specs.Vocabulary.{symbol_text}
use Rattle.model_tree.specs.Spelling.{unit_name}
use Rattle.model_tree.specs.Leaves.{is_name, is_print_text}
use Rattle.model_tree.specs.Limits.{is_number}

-- what a token means, however it is spelled
pub data Token : Type 0 where
  name : List ℕ → Token
  number : ℕ → Token
  logic : List Digit → Token
  quoted : List ℕ → Token
  word : Word → Token
  symbol : Symbol → Token

-- tokens in text order, each with its line
abbrev pub Tokens : Type 0
Tokens = List (Token × ℕ)

-- whether a token keeps the limits of its form
abbrev pub is_limited : Token → Bool
is_limited (name bytes) = is_name bytes
is_limited (number n) = is_number n
is_limited (logic digits) = nat_lt 0 (length digits) && nat_le (length digits) 64
is_limited (quoted bytes) = is_print_text bytes
is_limited (word w) = true
is_limited (symbol s) = true

abbrev pub each_is : (Token → Bool) → Tokens → Bool
each_is test [] = true
each_is test (t ∷ ts) = test t.0 && each_is test ts

abbrev pub are_limited : Tokens → Bool
are_limited ts = each_is is_limited ts

-- the symbol that these bytes spell, if they spell one
unfoldable pub symbol_of : List ℕ → Option Symbol
symbol_of bytes = find (λ s. bytes_eq (symbol_text s) bytes) SYMBOLS

-- what bytes of a name's form mean: a word of the language, or a name that keeps its limits
abbrev pub word_or_name : Option Word → List ℕ → Option Token
word_or_name (Some w) bytes = Some (word w)
word_or_name None bytes = if is_name bytes then Some (name bytes) else None

-- how a unit is written: a name in every language, but for femtoseconds
abbrev pub unit_token : TimeUnit → Token
unit_token unit.Fs = word w.Fs
unit_token unit.Ps = name (unit_name unit.Ps)
unit_token unit.Ns = name (unit_name unit.Ns)
unit_token unit.Us = name (unit_name unit.Us)
unit_token unit.Ms = name (unit_name unit.Ms)
unit_token unit.S = name (unit_name unit.S)
