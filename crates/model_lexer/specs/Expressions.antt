-- The expressions of the model language: which tokens derive an expression, and where it is over.
use Rattle.std.specs.Prelude.{◌≡◌, ℕ, suc, ◌+◌, ◌≤◌, Bool, false, ◌||◌, if◌then◌else◌, List, [], ◌∷◌, length, Option, Some, None, is_some, codes}
use Rattle.std.specs.Str.{bytes_eq}
use denote.Enum.Bare.{sameb}
use Rattle.model_tree.specs.SimTime.declared.moments.Unit.{Unit as TimeUnit}
use Rattle.model_tree.specs.SimTime.declared.moments.Unit.TheVariants as unit
use Rattle.model_tree.specs.contracts.vocabulary.Symbol.{the_type as the_symbol}
use Rattle.model_tree.specs.contracts.vocabulary.Word.{the_type as the_word}
use Rattle.model_tree.specs.declared.vocabulary.Word.{Word}
use Rattle.model_tree.specs.declared.vocabulary.Word.TheVariants as w
use Rattle.model_tree.specs.declared.vocabulary.Symbol.{Symbol}
use Rattle.model_tree.specs.declared.vocabulary.Symbol.TheVariants as s
use Rattle.model_tree.specs.declared.expressions.BinaryOp.{BinaryOp}
use Rattle.model_tree.specs.declared.expressions.BinaryOp.TheVariants as op
use Rattle.model_tree.specs.Limits.{level, operand_level, primary_level, chain_level, token_limit, depth}
use Rattle.model_tree.specs.Spelling.{unary_symbol, binary_symbol, truth_word, conversion_word, constant_word}
use Rattle.model_tree.specs.Tree as tree
use Rattle.model_lexer.specs.Tokens.{Token, Tokens, name, number, logic, quoted, word, symbol, unit_token}
use Rattle.model_lexer.specs.Rules.{Rule, ◌⨾◌, At, Takes, Binds}

-- at most 256 tokens
abbrev pub Short : Rule → Rule
Short P ts rest = P ts rest × (length ts ≤ token_limit + length rest)

-- what stands in parentheses
abbrev pub Parenthesized : Rule → Rule
Parenthesized P = Takes (symbol s.LeftParen) ⨾ Short P ⨾ Takes (symbol s.RightParen)

-- expr    = operators of ten levels, `||` the weakest, all to the left
-- unary   = [ "-" | "!" | "~" ] primary
-- primary = NUM [ unit ] | LOGIC | "true" | "false" | "now" | "self" | constant | "(" expr ")"
--         | ( "int" | "uint" | "bool" | "logic" ) "(" expr ")" | "lv" "<" NUM ">" "(" expr ")"
--         | "concat" "(" expr "," expr ")" | chain
-- chain   = NAME [ "@" ( NUM | "(" expr ")" ) ] { "." NAME | "[" ( NUM ":" NUM | expr ) "]" }
-- The number is the level that is wanted: what binds more weakly has no reading there without parentheses.
abbrev pub DerivesAt : ℕ → tree.Expression → Rule
DerivesAt n (tree.number line v) = Binds n primary_level (At line (number v))
DerivesAt n (tree.time line v u) = Binds n primary_level (At line (number v) ⨾ Takes (unit_token u))
DerivesAt n (tree.logic line digits) = Binds n primary_level (At line (logic digits))
DerivesAt n (tree.truth line b) = Binds n primary_level (At line (word (truth_word b)))
DerivesAt n (tree.now line) = Binds n primary_level (At line (word w.Now))
DerivesAt n (tree.myself line) = Binds n primary_level (At line (word w.SelfProcess))
DerivesAt n (tree.constant line c) = Binds n primary_level (At line (word (constant_word c)))
DerivesAt n (tree.paren line e) = Binds n primary_level (At line (symbol s.LeftParen) ⨾ Short (DerivesAt 0 e) ⨾ Takes (symbol s.RightParen))
DerivesAt n (tree.convert line c e) = Binds n primary_level (At line (word (conversion_word c)) ⨾ Parenthesized (DerivesAt 0 e))
DerivesAt n (tree.to_vector line width e) = Binds n primary_level (At line (word w.Lv) ⨾ Takes (symbol s.Less) ⨾ Takes (number width) ⨾ Takes (symbol s.Greater) ⨾ Parenthesized (DerivesAt 0 e))
DerivesAt n (tree.concat line upper lower) = Binds n primary_level (At line (word w.Concat) ⨾ Takes (symbol s.LeftParen) ⨾ Short (DerivesAt 0 upper) ⨾ Takes (symbol s.Comma) ⨾ Short (DerivesAt 0 lower) ⨾ Takes (symbol s.RightParen))
DerivesAt n (tree.named line x) = At line (name x)
DerivesAt n (tree.placed line x at) = At line (name x) ⨾ Takes (symbol s.At) ⨾ Takes (number at)
DerivesAt n (tree.placed_by line x e) = At line (name x) ⨾ Takes (symbol s.At) ⨾ Parenthesized (DerivesAt 0 e)
DerivesAt n (tree.member e x) = DerivesAt chain_level e ⨾ Takes (symbol s.Dot) ⨾ Takes (name x)
DerivesAt n (tree.element e index) = DerivesAt chain_level e ⨾ Takes (symbol s.LeftBracket) ⨾ Short (DerivesAt 0 index) ⨾ Takes (symbol s.RightBracket)
DerivesAt n (tree.slice e high low) = DerivesAt chain_level e ⨾ Takes (symbol s.LeftBracket) ⨾ Takes (number high) ⨾ Takes (symbol s.Colon) ⨾ Takes (number low) ⨾ Takes (symbol s.RightBracket)
DerivesAt n (tree.unary line o e) = Binds n operand_level (At line (symbol (unary_symbol o)) ⨾ DerivesAt primary_level e)
DerivesAt n (tree.binary o left right) = Binds n (level o) (DerivesAt (level o) left ⨾ Takes (symbol (binary_symbol o)) ⨾ DerivesAt (suc (level o)) right)

-- an expression of any level has at most 256 tokens
abbrev pub DerivesExpression : tree.Expression → Rule
DerivesExpression e = Short (DerivesAt 0 e)

-- which operator and which unit a token is

abbrev pub operator_of : Symbol → Option BinaryOp
operator_of s.LessEqual = Some op.LessEqual
operator_of s.GreaterEqual = Some op.GreaterEqual
operator_of s.EqualEqual = Some op.Equal
operator_of s.NotEqual = Some op.NotEqual
operator_of s.ShiftLeft = Some op.ShiftLeft
operator_of s.ShiftRight = Some op.ShiftRight
operator_of s.AndAnd = Some op.AndThen
operator_of s.OrOr = Some op.OrElse
operator_of s.Arrow = None
operator_of s.LeftBrace = None
operator_of s.RightBrace = None
operator_of s.LeftParen = None
operator_of s.RightParen = None
operator_of s.LeftBracket = None
operator_of s.RightBracket = None
operator_of s.Less = Some op.Less
operator_of s.Greater = Some op.Greater
operator_of s.Plus = Some op.Add
operator_of s.Minus = Some op.Subtract
operator_of s.Star = Some op.Multiply
operator_of s.Slash = Some op.Divide
operator_of s.Percent = Some op.Remainder
operator_of s.Ampersand = Some op.BitAnd
operator_of s.Bar = Some op.BitOr
operator_of s.Caret = Some op.BitXor
operator_of s.Tilde = None
operator_of s.Bang = None
operator_of s.Equal = None
operator_of s.Semicolon = None
operator_of s.Comma = None
operator_of s.Dot = None
operator_of s.Colon = None
operator_of s.At = None

abbrev pub operator_in : Token → Option BinaryOp
operator_in (name x) = None
operator_in (number v) = None
operator_in (logic digits) = None
operator_in (quoted x) = None
operator_in (word u) = None
operator_in (symbol u) = operator_of u

abbrev pub unit_of : List ℕ → Option TimeUnit
unit_of x = if bytes_eq x (codes "ps") then Some unit.Ps else (if bytes_eq x (codes "ns") then Some unit.Ns else (if bytes_eq x (codes "us") then Some unit.Us else (if bytes_eq x (codes "ms") then Some unit.Ms else (if bytes_eq x (codes "s") then Some unit.S else None))))

-- the unit that a word is, if it is one
abbrev pub unit_word : Word → Option TimeUnit
unit_word u = if sameb the_word u w.Fs then Some unit.Fs else None

abbrev pub unit_in : Token → Option TimeUnit
unit_in (name x) = unit_of x
unit_in (number v) = None
unit_in (logic digits) = None
unit_in (quoted x) = None
unit_in (word u) = unit_word u
unit_in (symbol u) = None

-- whether the token is this symbol
abbrev pub is_the_symbol : Symbol → Token → Bool
is_the_symbol v (name x) = false
is_the_symbol v (number n) = false
is_the_symbol v (logic digits) = false
is_the_symbol v (quoted x) = false
is_the_symbol v (word u) = false
is_the_symbol v (symbol u) = sameb the_symbol u v

-- whether the token goes on with a chain
abbrev pub is_link : Token → Bool
is_link t = is_the_symbol s.Dot t || is_the_symbol s.LeftBracket t

-- whether the token goes on with the last operand of an expression: a unit with a number, `@` with a name,
-- `.` and `[` with a chain
abbrev pub extends : tree.Expression → Token → Bool
extends (tree.number line v) t = is_some (unit_in t)
extends (tree.time line v u) t = false
extends (tree.logic line digits) t = false
extends (tree.truth line b) t = false
extends (tree.now line) t = false
extends (tree.myself line) t = false
extends (tree.constant line c) t = false
extends (tree.paren line e) t = false
extends (tree.convert line c e) t = false
extends (tree.to_vector line width e) t = false
extends (tree.concat line upper lower) t = false
extends (tree.named line x) t = is_the_symbol s.At t || is_link t
extends (tree.placed line x at) t = is_link t
extends (tree.placed_by line x e) t = is_link t
extends (tree.member e x) t = is_link t
extends (tree.element e index) t = is_link t
extends (tree.slice e high low) t = is_link t
extends (tree.unary line o e) t = extends e t
extends (tree.binary o left right) t = extends right t

-- whether the token goes on with an expression
abbrev pub goes_on : tree.Expression → Token → Bool
goes_on e t = is_some (operator_in t) || extends e t

-- whether the next token passes the test
abbrev pub sees : (Token → Bool) → Tokens → Bool
sees test [] = false
sees test (x ∷ ts) = test x.0

-- no next token goes on with the expression
abbrev pub IsOver : tree.Expression → Tokens → Type 0
IsOver e rest = sees (goes_on e) rest ≡ false

-- the tokens begin with the expression and go on with none, at most so many brackets are open in it, and these tokens are left
abbrev pub BeginsWith : ℕ → tree.Expression → Rule
BeginsWith brackets e ts rest = DerivesExpression e ts rest × (depth e ≤ brackets) × IsOver e rest
