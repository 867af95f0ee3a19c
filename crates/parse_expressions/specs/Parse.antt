-- Parser functions on lists of tokens, one for each parsing function of the code. They are no definition of
-- the language: the grammar is. The parsing functions of this crate and of those above it cite them; the call
-- that reads a whole text does not.
use Rattle.std.specs.Prelude.{◌≡◌, ◌≢◌, ℕ, zero, suc, ◌+◌, ◌++◌, ◌==◌, Bool, true, false, not, cond, nat_le, List, [], ◌∷◌, length, Option, Some, None, Result, Ok, Err}
use Rattle.model_lexer.specs.LogicValues.declared.kinds.Digit.{Digit}
use Rattle.model_lexer.specs.SimTime.declared.moments.Unit.{Unit as TimeUnit}
use denote.Enum.Bare.{sameb}
use Rattle.model_tree.specs.contracts.vocabulary.Word.{the_type as the_word}
use Rattle.model_tree.specs.declared.vocabulary.Word.{Word}
use Rattle.model_tree.specs.declared.vocabulary.Word.TheVariants as w
use Rattle.model_tree.specs.declared.vocabulary.Symbol.{Symbol}
use Rattle.model_tree.specs.declared.vocabulary.Symbol.TheVariants as s
use Rattle.model_tree.specs.declared.faults.ParseStop.{ParseStop}
use Rattle.model_tree.specs.declared.faults.ParseStop.TheVariants as stop
use Rattle.model_tree.specs.declared.expressions.UnaryOp.{UnaryOp}
use Rattle.model_tree.specs.declared.expressions.UnaryOp.TheVariants as sign
use Rattle.model_tree.specs.declared.expressions.BinaryOp.{BinaryOp}
use Rattle.model_tree.specs.declared.expressions.Conversion.{Conversion}
use Rattle.model_tree.specs.declared.expressions.Conversion.TheVariants as conversion
use Rattle.model_tree.specs.declared.expressions.NamedConstant.TheVariants as constant
use Rattle.model_tree.specs.Limits.{level}
use Rattle.model_tree.specs.Tree as tree
use Rattle.model_lexer.specs.Tokens as t
use Rattle.parse_expressions.specs.declared.starts.Leaf.{Leaf}
use Rattle.parse_expressions.specs.declared.starts.Leaf.TheVariants as leaf
use Rattle.parse_expressions.specs.declared.starts.Start.{Start}
use Rattle.parse_expressions.specs.declared.starts.Start.TheVariants as start
use Rattle.model_lexer.specs.Expressions.{operator_in, unit_in, is_the_symbol, is_link, sees}

abbrev pub Parser : Type 0 → Type 0
Parser A = t.Tokens → Option (A × t.Tokens)

-- what a parsing function returned and left, seen by view, is what the parser gives, unless memory ran out
abbrev pub Parses : {X Y : Type 0} → (X → Y) → Parser Y → t.Tokens → Result X ParseStop → t.Tokens → Type 0
Parses view p old (Ok x) new = p old ≡ Some (view x, new)
Parses view p old (Err e) new = e ≢ stop.NoMemory → p old ≡ None

abbrev pub and_then : {A B : Type 0} → Option (A × t.Tokens) → (A → Parser B) → Option (B × t.Tokens)
and_then None f = None
and_then (Some r) f = f r.0 r.1

infixl 10 ◌>>=◌
abbrev pub ◌>>=◌ : {A B : Type 0} → Parser A → (A → Parser B) → Parser B
(p >>= f) ts = and_then (p ts) f

abbrev pub pure : {A : Type 0} → A → Parser A
pure x ts = Some (x, ts)

-- what reads nothing
abbrev pub refuse : {A : Type 0} → Parser A
refuse ts = None

-- one of two, as a test of the tokens says
abbrev pub choose : {A : Type 0} → (t.Tokens → Bool) → Parser A → Parser A → Parser A
choose test p q ts = cond (test ts) (p ts) (q ts)

-- the first where there is nothing to go by, or else what is made of it
abbrev pub where_some : {A B : Type 0} → Option A → Parser B → (A → Parser B) → Parser B
where_some None p f = p
where_some (Some x) p f = f x

-- a step again and again, at most so often, up to where a test of the tokens says to stop
module _ {A : Type 0} (stops : t.Tokens → Bool) (step : A → Parser A) where
  unfoldable pub repeat : ℕ → A → Parser A
  repeat zero x ts = None
  repeat (suc turns) x ts = cond (stops ts) (Some (x, ts)) (and_then (step x ts) (repeat turns))

-- one more at the end of those that were found
abbrev pub one_more : {A : Type 0} → Parser A → List A → Parser (List A)
one_more item found = do
  x ← item
  pure (found ++ x ∷ [])

-- as many as come up to where a test of the tokens says to stop, behind those that were found
abbrev pub many : {A : Type 0} → (t.Tokens → Bool) → Parser A → List A → Parser (List A)
many stops item found ts = repeat stops (one_more item) (length ts + 1) found ts

-- one token

abbrev pub front : t.Tokens → Option t.Token
front [] = None
front (x ∷ ts) = Some x.0

-- the next token, whatever it is; its line
unfoldable pub skip : Parser ℕ
skip [] = None
skip (x ∷ ts) = Some (x.1, ts)

-- a token that passes the test; its line
abbrev pub expect : (t.Token → Bool) → Parser ℕ
expect test [] = None
expect test (x ∷ ts) = cond (test x.0) (Some (x.1, ts)) None

unfoldable pub symbol : Symbol → Parser ℕ
symbol v = expect (is_the_symbol v)

abbrev pub is_the_word : Word → t.Token → Bool
is_the_word v (t.name x) = false
is_the_word v (t.number n) = false
is_the_word v (t.logic digits) = false
is_the_word v (t.quoted x) = false
is_the_word v (t.word u) = sameb the_word u v
is_the_word v (t.symbol u) = false

unfoldable pub word : Word → Parser ℕ
word v = expect (is_the_word v)

-- true, behind this word
abbrev pub true_behind : Word → Parser Bool
true_behind v = do
  line ← word v
  pure true

unfoldable pub flag : Word → Parser Bool
flag v = choose (sees (is_the_word v)) (true_behind v) (pure false)

abbrev pub text_in : t.Token → t.Tokens → Option (List ℕ × t.Tokens)
text_in (t.name x) ts = None
text_in (t.number n) ts = None
text_in (t.logic digits) ts = None
text_in (t.quoted x) ts = Some (x, ts)
text_in (t.word u) ts = None
text_in (t.symbol u) ts = None

-- a text between double quotes
unfoldable pub text : Parser (List ℕ)
text [] = None
text (x ∷ ts) = text_in x.0 ts

abbrev pub name_in : t.Token → ℕ → t.Tokens → Option ((ℕ × List ℕ) × t.Tokens)
name_in (t.name x) line ts = Some ((line, x), ts)
name_in (t.number n) line ts = None
name_in (t.logic digits) line ts = None
name_in (t.quoted x) line ts = None
name_in (t.word u) line ts = None
name_in (t.symbol u) line ts = None

-- a name and its line
unfoldable pub named : Parser (ℕ × List ℕ)
named [] = None
named (x ∷ ts) = name_in x.0 x.1 ts

unfoldable pub name : Parser (List ℕ)
name = do
  x ← named
  pure x.1

abbrev pub number_in : t.Token → ℕ → t.Tokens → Option ((ℕ × ℕ) × t.Tokens)
number_in (t.name x) line ts = None
number_in (t.number n) line ts = Some ((line, n), ts)
number_in (t.logic digits) line ts = None
number_in (t.quoted x) line ts = None
number_in (t.word u) line ts = None
number_in (t.symbol u) line ts = None

-- a number and its line
unfoldable pub numbered : Parser (ℕ × ℕ)
numbered [] = None
numbered (x ∷ ts) = number_in x.0 x.1 ts

unfoldable pub number : Parser ℕ
number = do
  x ← numbered
  pure x.1

abbrev pub logic_in : t.Token → ℕ → t.Tokens → Option ((ℕ × List Digit) × t.Tokens)
logic_in (t.name x) line ts = None
logic_in (t.number n) line ts = None
logic_in (t.logic digits) line ts = Some ((line, digits), ts)
logic_in (t.quoted x) line ts = None
logic_in (t.word u) line ts = None
logic_in (t.symbol u) line ts = None

-- the digits of a logic literal and their line
unfoldable pub logical : Parser (ℕ × List Digit)
logical [] = None
logical (x ∷ ts) = logic_in x.0 x.1 ts

abbrev pub is_number_in : t.Token → Bool
is_number_in (t.name x) = false
is_number_in (t.number n) = true
is_number_in (t.logic digits) = false
is_number_in (t.quoted x) = false
is_number_in (t.word u) = false
is_number_in (t.symbol u) = false

abbrev pub is_the_number : ℕ → t.Token → Bool
is_the_number n (t.name x) = false
is_the_number n (t.number m) = m == n
is_the_number n (t.logic digits) = false
is_the_number n (t.quoted x) = false
is_the_number n (t.word u) = false
is_the_number n (t.symbol u) = false

-- this number
unfoldable pub this_number : ℕ → Parser ℕ
this_number n = expect (is_the_number n)

-- whether a number comes
abbrev pub sees_number : t.Tokens → Bool
sees_number = sees is_number_in

-- whether a number and a colon come
abbrev pub sees_bounds : t.Tokens → Bool
sees_bounds [] = false
sees_bounds (x ∷ ts) = cond (is_number_in x.0) (sees (is_the_symbol s.Colon) ts) false

-- what a token of the next place is, if it is one
abbrev pub ahead : {A : Type 0} → (t.Token → Option A) → t.Tokens → Option A
ahead f [] = None
ahead f (x ∷ ts) = f x.0

abbrev pub word_in : t.Token → Option Word
word_in (t.name x) = None
word_in (t.number n) = None
word_in (t.logic digits) = None
word_in (t.quoted x) = None
word_in (t.word u) = Some u
word_in (t.symbol u) = None

abbrev pub word_ahead : t.Tokens → Option Word
word_ahead = ahead word_in

-- whether the token behind the next one passes the test
abbrev pub sees_second : (t.Token → Bool) → t.Tokens → Bool
sees_second test [] = false
sees_second test (x ∷ ts) = sees test ts

abbrev pub unit_ahead : t.Tokens → Option TimeUnit
unit_ahead = ahead unit_in

abbrev pub operator_ahead : t.Tokens → Option BinaryOp
operator_ahead = ahead operator_in

abbrev pub sign_of : Symbol → Option UnaryOp
sign_of s.Minus = Some sign.Negate
sign_of s.Bang = Some sign.Not
sign_of s.Tilde = Some sign.Complement
sign_of _ = None

abbrev pub sign_in : t.Token → Option UnaryOp
sign_in (t.name x) = None
sign_in (t.number n) = None
sign_in (t.logic digits) = None
sign_in (t.quoted x) = None
sign_in (t.word u) = None
sign_in (t.symbol u) = sign_of u

abbrev pub sign_ahead : t.Tokens → Option UnaryOp
sign_ahead = ahead sign_in

-- what an operand is by its first token

abbrev pub word_start : Word → Start
word_start w.True = start.Leaf (leaf.Truth true)
word_start w.False = start.Leaf (leaf.Truth false)
word_start w.Now = start.Leaf leaf.Now
word_start w.SelfProcess = start.Leaf leaf.Myself
word_start w.ReadCommand = start.Leaf (leaf.Constant constant.Read)
word_start w.WriteCommand = start.Leaf (leaf.Constant constant.Write)
word_start w.IgnoreCommand = start.Leaf (leaf.Constant constant.Ignore)
word_start w.OkResponse = start.Leaf (leaf.Constant constant.OkResponse)
word_start w.IncompleteResponse = start.Leaf (leaf.Constant constant.Incomplete)
word_start w.GenericResponse = start.Leaf (leaf.Constant constant.GenericError)
word_start w.AddressResponse = start.Leaf (leaf.Constant constant.AddressError)
word_start w.CommandResponse = start.Leaf (leaf.Constant constant.CommandError)
word_start w.BurstResponse = start.Leaf (leaf.Constant constant.BurstError)
word_start w.ByteEnableResponse = start.Leaf (leaf.Constant constant.ByteEnableError)
word_start w.BeginReq = start.Leaf (leaf.Constant constant.BeginReq)
word_start w.EndReq = start.Leaf (leaf.Constant constant.EndReq)
word_start w.BeginResp = start.Leaf (leaf.Constant constant.BeginResp)
word_start w.EndResp = start.Leaf (leaf.Constant constant.EndResp)
word_start w.Accepted = start.Leaf (leaf.Constant constant.Accepted)
word_start w.Updated = start.Leaf (leaf.Constant constant.Updated)
word_start w.Completed = start.Leaf (leaf.Constant constant.Completed)
word_start w.Int = start.Convert conversion.Int
word_start w.Uint = start.Convert conversion.Uint
word_start w.Bool = start.Convert conversion.Bool
word_start w.Logic = start.Convert conversion.Logic
word_start w.Lv = start.Vector
word_start w.Concat = start.Concat
word_start _ = start.Nothing

abbrev pub symbol_start : Symbol → Start
symbol_start s.LeftParen = start.Paren
symbol_start _ = start.Nothing

abbrev pub token_start : t.Token → Start
token_start (t.name x) = start.Name
token_start (t.number n) = start.Number
token_start (t.logic digits) = start.Logic
token_start (t.quoted x) = start.Nothing
token_start (t.word u) = word_start u
token_start (t.symbol u) = symbol_start u

abbrev pub start_of : t.Tokens → Start
start_of [] = start.Nothing
start_of (x ∷ ts) = token_start x.0

abbrev pub leaf_tree : ℕ → Leaf → tree.Expression
leaf_tree line (leaf.Truth b) = tree.truth line b
leaf_tree line leaf.Now = tree.now line
leaf_tree line leaf.Myself = tree.myself line
leaf_tree line (leaf.Constant c) = tree.constant line c

-- operands that hold no expression

abbrev pub with_unit : ℕ × ℕ → TimeUnit → Parser tree.Expression
with_unit x u = do
  line ← skip
  pure (tree.time x.0 x.1 u)

abbrev pub timed : ℕ × ℕ → Parser tree.Expression
timed x ts = where_some (unit_ahead ts) (pure (tree.number x.0 x.1)) (with_unit x) ts

unfoldable pub number_or_time : Parser tree.Expression
number_or_time = do
  x ← numbered
  timed x

unfoldable pub literal : Parser tree.Expression
literal = do
  x ← logical
  pure (tree.logic x.0 x.1)

unfoldable pub leaf_expression : Leaf → Parser tree.Expression
leaf_expression l = do
  line ← skip
  pure (leaf_tree line l)

-- the member of a chain
unfoldable pub member : tree.Expression → Parser tree.Expression
member e = do
  dot ← symbol s.Dot
  x ← name
  pure (tree.member e x)

-- the bounds of a slice, and its closing bracket
unfoldable pub bounds : tree.Expression → Parser tree.Expression
bounds e = do
  high ← number
  colon ← symbol s.Colon
  low ← number
  close ← symbol s.RightBracket
  pure (tree.slice e high low)

-- a bracket, if one may still be opened
unfoldable pub opened : ℕ → Symbol → Parser ℕ
opened zero v = refuse
opened (suc depth) v = symbol v

-- the most tokens of an expression, and one more turn than it can take
abbrev pub turns : ℕ
turns = 257

-- at most 256 tokens
abbrev pub measured : t.Tokens → tree.Expression → Parser tree.Expression
measured ts e rest = cond (nat_le (length ts) (256 + length rest)) (Some (e, rest)) None

abbrev pub short : Parser tree.Expression → Parser tree.Expression
short p ts = and_then (p ts) (measured ts)

-- no link comes
abbrev pub at_no_link : t.Tokens → Bool
at_no_link ts = not (sees is_link ts)

-- whether no operator of this level comes
abbrev pub is_not_of : ℕ → Option BinaryOp → Bool
is_not_of n None = true
is_not_of n (Some o) = not (level o == n)

abbrev pub at_none_of : ℕ → t.Tokens → Bool
at_none_of n ts = is_not_of n (operator_ahead ts)

-- an operator and its right operand, which the first parser reads
abbrev pub with_operator : Parser tree.Expression → tree.Expression → Option BinaryOp → Parser tree.Expression
with_operator next left None = refuse
with_operator next left (Some o) = do
  line ← skip
  right ← next
  pure (tree.binary o left right)

unfoldable pub binary : Parser tree.Expression → tree.Expression → Parser tree.Expression
binary next left ts = with_operator next left (operator_ahead ts) ts

-- operands, with operators of this level between them
unfoldable pub levelled : ℕ → Parser tree.Expression → Parser tree.Expression
levelled n next = do
  e ← next
  repeat (at_none_of n) (binary next) turns e

-- where so many brackets may still be opened, and what stands in one more of them
module _ (depth : ℕ) (inside : Parser tree.Expression) where
  -- an expression in parentheses, and the line of the first
  unfoldable pub group : Parser (ℕ × tree.Expression)
  group = do
    line ← opened depth s.LeftParen
    e ← inside
    close ← symbol s.RightParen
    pure (line, e)

  unfoldable pub paren : Parser tree.Expression
  paren = do
    x ← group
    pure (tree.paren x.0 x.1)

  unfoldable pub convert : Conversion → Parser tree.Expression
  convert c = do
    line ← skip
    x ← group
    pure (tree.convert line c x.1)

  unfoldable pub vector : Parser tree.Expression
  vector = do
    line ← skip
    less ← symbol s.Less
    width ← number
    greater ← symbol s.Greater
    x ← group
    pure (tree.to_vector line width x.1)

  unfoldable pub concat : Parser tree.Expression
  concat = do
    line ← skip
    parens ← opened depth s.LeftParen
    upper ← inside
    comma ← symbol s.Comma
    lower ← inside
    close ← symbol s.RightParen
    pure (tree.concat line upper lower)

  -- a place by its number
  abbrev pub placed : ℕ × List ℕ → Parser tree.Expression
  placed x = do
    at ← number
    pure (tree.placed x.0 x.1 at)

  abbrev pub placed_by : ℕ × List ℕ → Parser tree.Expression
  placed_by x = do
    e ← group
    pure (tree.placed_by x.0 x.1 e.1)

  unfoldable pub place : ℕ × List ℕ → Parser tree.Expression
  place x = do
    sign ← symbol s.At
    choose sees_number (placed x) (placed_by x)

  abbrev pub placed_or_not : ℕ × List ℕ → Parser tree.Expression
  placed_or_not x = choose (sees (is_the_symbol s.At)) (place x) (pure (tree.named x.0 x.1))

  -- a name, at a place or not
  unfoldable pub channel : Parser tree.Expression
  channel = do
    x ← named
    placed_or_not x

  abbrev pub element : tree.Expression → Parser tree.Expression
  element e = do
    i ← inside
    close ← symbol s.RightBracket
    pure (tree.element e i)

  unfoldable pub index : tree.Expression → Parser tree.Expression
  index e = do
    bracket ← opened depth s.LeftBracket
    choose sees_bounds (bounds e) (element e)

  unfoldable pub link : tree.Expression → Parser tree.Expression
  link e = choose (sees (is_the_symbol s.Dot)) (member e) (index e)

  unfoldable pub chain : Parser tree.Expression
  chain = do
    e ← channel
    repeat at_no_link link turns e

  abbrev pub primary_of : Start → Parser tree.Expression
  primary_of start.Number = number_or_time
  primary_of start.Logic = literal
  primary_of start.Name = chain
  primary_of start.Paren = paren
  primary_of (start.Leaf l) = leaf_expression l
  primary_of (start.Convert c) = convert c
  primary_of start.Vector = vector
  primary_of start.Concat = concat
  primary_of start.Nothing = refuse

  unfoldable pub primary : Parser tree.Expression
  primary ts = primary_of (start_of ts) ts

  unfoldable pub unary : UnaryOp → Parser tree.Expression
  unary o = do
    line ← skip
    e ← primary
    pure (tree.unary line o e)

  unfoldable pub operand : Parser tree.Expression
  operand ts = where_some (sign_ahead ts) primary unary ts

  -- so many levels of operators, from the one of this number on
  unfoldable pub climb : ℕ → ℕ → Parser tree.Expression
  climb zero n = operand
  climb (suc levels) n = levelled n (climb levels (suc n))

-- an expression, where so many brackets may still be opened
unfoldable pub inside : ℕ → Parser tree.Expression
inside zero = refuse
inside (suc depth) = short (climb depth (inside depth) 10 0)

unfoldable pub expression : ℕ → Parser tree.Expression
expression depth = short (climb depth (inside depth) 10 0)
