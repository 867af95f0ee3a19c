-- What is derived, and over, is read.
use Rattle.std.proofs.Common.{◌≡◌, ℕ, zero, suc, ◌+◌, ◌<◌, ◌≤◌, Bool, true, false, List, [], ◌∷◌, length, Option, Some, None, refl, ap, sym, ◌∙◌, subst, ◌⊎◌, inl, inr, ⊎_elim, arith}
use Rattle.std.specs.Prelude.{◌||◌, ◌==◌, not, is_some, max}
use Rattle.std.proofs.lemmas.Bool.{cases_Bool, le-leb}
use Rattle.std.proofs.lemmas.Bool.Decides.{nat_tests}
use Rattle.std.proofs.lemmas.Option.{same_Some}
use Rattle.model_lexer.specs.LogicValues.declared.kinds.Digit.{Digit}
use Rattle.model_lexer.specs.SimTime.declared.moments.Unit.{Unit as TimeUnit}
use Rattle.model_lexer.specs.SimTime.declared.moments.Unit.TheVariants as unit
use Rattle.model_tree.specs.declared.vocabulary.Symbol.{Symbol}
use Rattle.model_tree.specs.declared.vocabulary.Symbol.TheVariants as s
use Rattle.model_tree.specs.declared.expressions.BinaryOp.{BinaryOp}
use Rattle.model_tree.specs.declared.expressions.BinaryOp.TheVariants as op
use Rattle.model_tree.specs.declared.expressions.UnaryOp.{UnaryOp}
use Rattle.model_tree.specs.declared.expressions.UnaryOp.TheVariants as sign
use Rattle.model_tree.specs.declared.expressions.Conversion.{Conversion}
use Rattle.model_tree.specs.declared.expressions.Conversion.TheVariants as conversion
use Rattle.model_tree.specs.Limits.{level, depth, token_count}
use Rattle.model_tree.specs.Tree as tree
use Rattle.model_lexer.specs.Tokens as t
use Rattle.model_lexer.specs.Tokens.{Tokens}
use Rattle.model_lexer.specs.Rules.{◌⨾◌, At, Takes}
use Rattle.parse_expressions.specs.declared.starts.Leaf.{Leaf}
use Rattle.parse_expressions.specs.declared.starts.Leaf.TheVariants as leaf
use Rattle.parse_expressions.specs.declared.starts.Start.{Start}
use Rattle.parse_expressions.specs.declared.starts.Start.TheVariants as start
use Rattle.model_lexer.specs.Expressions.{Short, Parenthesized, DerivesAt, unit_in, operator_in, is_the_symbol, is_link, extends, goes_on, sees, IsOver, BeginsWith}
use Rattle.model_tree.specs.Spelling.{binary_symbol, unary_symbol, conversion_word}
use Rattle.parse_expressions.specs.Parse.{Parser, and_then, repeat, unit_ahead, operator_ahead, sign_in, sign_ahead, token_start, start_of, leaf_tree, number_or_time, literal, leaf_expression, member, bounds, short, at_no_link, is_not_of, at_none_of, binary, levelled, sees_number, sees_bounds, group, paren, convert, vector, concat, placed, placed_by, place, channel, index, link, chain, primary_of, primary, unary, operand, climb, inside, expression}
use Rattle.parse_expressions.proofs.Parsers.{choose_first, choose_other, repeat_stops, repeat_goes}
use Rattle.parse_expressions.proofs.OneToken.{is_symbol_same, skip_reads, symbol_reads, opened_reads, named_reads, name_reads, numbered_reads, number_reads, logical_reads, symbol_sees, named_unit, operator_symbol, sign_symbol, truth_begins, conversion_begins, constant_begins}
use Rattle.model_lexer.proofs.SoundExpressions.{counted}
use Rattle.parse_expressions.proofs.Sound.{AtFree, NoneFrom, level_small, lower}

-- an expression takes a token at least
pub some_tokens : (e : tree.Expression) → 1 ≤ token_count e
some_tokens (tree.member e x) = omega arith
some_tokens (tree.element e i) = omega arith
some_tokens (tree.slice e x y) = omega arith
some_tokens (tree.binary o x y) = omega arith
some_tokens (tree.unary line o e) = omega arith
some_tokens (tree.paren line e) = omega arith
some_tokens (tree.convert line c e) = omega arith
some_tokens (tree.to_vector line width e) = omega arith
some_tokens (tree.concat line x y) = omega arith
some_tokens (tree.placed_by line x e) = omega arith
some_tokens _ = omega arith

-- what closes a bracket or separates goes on with none expression

pub extends_not : (x : t.Token) → is_some (unit_in x) ≡ false → is_link x ≡ false → is_the_symbol s.At x ≡ false → (e : tree.Expression) → extends e x ≡ false
extends_not x u k f (tree.number line v) = u
extends_not x u k f (tree.named line y) = rw (f, k) refl
extends_not x u k f (tree.placed line y v) = k
extends_not x u k f (tree.placed_by line y e) = k
extends_not x u k f (tree.member e y) = k
extends_not x u k f (tree.element e i) = k
extends_not x u k f (tree.slice e a b) = k
extends_not x u k f (tree.unary line o e) = extends_not x u k f e
extends_not x u k f (tree.binary o a b) = extends_not x u k f b
extends_not x u k f _ = refl

pub goes_not : (x : t.Token) → is_some (operator_in x) ≡ false → is_some (unit_in x) ≡ false → is_link x ≡ false → is_the_symbol s.At x ≡ false → (e : tree.Expression) → goes_on e x ≡ false
goes_not x o u k f e = rw (o, extends_not x u k f e) refl

pub over_at : (x : t.Token) (e : tree.Expression) (ts rest : Tokens) → is_some (operator_in x) ≡ false → is_some (unit_in x) ≡ false → is_link x ≡ false → is_the_symbol s.At x ≡ false → Takes x ts rest → IsOver e ts
over_at x e ts rest o u k f h = rw h.1 (goes_not x o u k f e)

operator_extends_not : (o : BinaryOp) (e : tree.Expression) → extends e (t.symbol (binary_symbol o)) ≡ false
operator_extends_not op.OrElse e = extends_not _ refl refl refl e
operator_extends_not op.AndThen e = extends_not _ refl refl refl e
operator_extends_not op.BitOr e = extends_not _ refl refl refl e
operator_extends_not op.BitXor e = extends_not _ refl refl refl e
operator_extends_not op.BitAnd e = extends_not _ refl refl refl e
operator_extends_not op.Equal e = extends_not _ refl refl refl e
operator_extends_not op.NotEqual e = extends_not _ refl refl refl e
operator_extends_not op.Less e = extends_not _ refl refl refl e
operator_extends_not op.LessEqual e = extends_not _ refl refl refl e
operator_extends_not op.Greater e = extends_not _ refl refl refl e
operator_extends_not op.GreaterEqual e = extends_not _ refl refl refl e
operator_extends_not op.ShiftLeft e = extends_not _ refl refl refl e
operator_extends_not op.ShiftRight e = extends_not _ refl refl refl e
operator_extends_not op.Add e = extends_not _ refl refl refl e
operator_extends_not op.Subtract e = extends_not _ refl refl refl e
operator_extends_not op.Multiply e = extends_not _ refl refl refl e
operator_extends_not op.Divide e = extends_not _ refl refl refl e
operator_extends_not op.Remainder e = extends_not _ refl refl refl e

-- what an operand begins with

name_begins : (e : tree.Expression) (ts rest : Tokens) → DerivesAt 12 e ts rest → start_of ts ≡ start.Name
name_begins (tree.named line x) ts rest h = rw h refl
name_begins (tree.placed line x v) ts rest h = rw h.1 refl
name_begins (tree.placed_by line x e) ts rest h = rw h.1 refl
name_begins (tree.member e x) ts rest h = name_begins e ts h.0 h.1
name_begins (tree.element e i) ts rest h = name_begins e ts h.0 h.1
name_begins (tree.slice e a b) ts rest h = name_begins e ts h.0 h.1
name_begins (tree.binary o a b) ts rest h = let small = level_small o in absurd (omega (arith, h.0))
name_begins _ ts rest h = absurd (omega (arith, h.0))

-- an operand begins with none prefix operator
no_sign : (e : tree.Expression) (ts rest : Tokens) → DerivesAt 11 e ts rest → sign_ahead ts ≡ None
no_sign (tree.number line v) ts rest h = rw h.1 refl
no_sign (tree.time line v u) ts rest h = rw h.1.1 refl
no_sign (tree.logic line v) ts rest h = rw h.1 refl
no_sign (tree.truth line b) ts rest h = rw h.1 refl
no_sign (tree.now line) ts rest h = rw h.1 refl
no_sign (tree.myself line) ts rest h = rw h.1 refl
no_sign (tree.constant line c) ts rest h = rw h.1 refl
no_sign (tree.paren line e) ts rest h = rw h.1.1 refl
no_sign (tree.convert line c e) ts rest h = rw h.1.1 refl
no_sign (tree.to_vector line width e) ts rest h = rw h.1.1 refl
no_sign (tree.concat line x y) ts rest h = rw h.1.1 refl
no_sign (tree.named line x) ts rest h = rw h refl
no_sign (tree.placed line x v) ts rest h = rw h.1 refl
no_sign (tree.placed_by line x e) ts rest h = rw h.1 refl
no_sign (tree.member e x) ts rest h = no_sign e ts h.0 (lower e 11 12 ts h.0 (omega arith) h.1)
no_sign (tree.element e i) ts rest h = no_sign e ts h.0 (lower e 11 12 ts h.0 (omega arith) h.1)
no_sign (tree.slice e a b) ts rest h = no_sign e ts h.0 (lower e 11 12 ts h.0 (omega arith) h.1)
no_sign (tree.unary line o e) ts rest h = absurd (omega (arith, h.0))
no_sign (tree.binary o a b) ts rest h = let small = level_small o in absurd (omega (arith, h.0))

pub none_of : {A : Type 0} (o : Option A) → is_some o ≡ false → o ≡ None
none_of None h = refl
none_of (Some x) h = cc

-- how tightly an expression binds
abbrev top : tree.Expression → ℕ
top (tree.unary line o e) = 10
top (tree.binary o x y) = level o
top _ = 11

tighter : (e : tree.Expression) (n m : ℕ) (ts rest : Tokens) → m ≤ top e → DerivesAt n e ts rest → DerivesAt m e ts rest
tighter (tree.number line v) n m ts rest k h = (k, h.1)
tighter (tree.time line v u) n m ts rest k h = (k, h.1)
tighter (tree.logic line v) n m ts rest k h = (k, h.1)
tighter (tree.truth line b) n m ts rest k h = (k, h.1)
tighter (tree.now line) n m ts rest k h = (k, h.1)
tighter (tree.myself line) n m ts rest k h = (k, h.1)
tighter (tree.constant line c) n m ts rest k h = (k, h.1)
tighter (tree.paren line e) n m ts rest k h = (k, h.1)
tighter (tree.convert line c e) n m ts rest k h = (k, h.1)
tighter (tree.to_vector line width e) n m ts rest k h = (k, h.1)
tighter (tree.concat line a b) n m ts rest k h = (k, h.1)
tighter (tree.named line x) n m ts rest k h = h
tighter (tree.placed line x v) n m ts rest k h = h
tighter (tree.placed_by line x e) n m ts rest k h = h
tighter (tree.member e x) n m ts rest k h = h
tighter (tree.element e i) n m ts rest k h = h
tighter (tree.slice e a b) n m ts rest k h = h
tighter (tree.unary line o e) n m ts rest k h = (k, h.1)
tighter (tree.binary o a b) n m ts rest k h = (k, h.1)

-- no expression begins with a number and a colon

no_colon : (o : BinaryOp) → is_the_symbol s.Colon (t.symbol (binary_symbol o)) ≡ false
no_colon op.OrElse = refl
no_colon op.AndThen = refl
no_colon op.BitOr = refl
no_colon op.BitXor = refl
no_colon op.BitAnd = refl
no_colon op.Equal = refl
no_colon op.NotEqual = refl
no_colon op.Less = refl
no_colon op.LessEqual = refl
no_colon op.Greater = refl
no_colon op.GreaterEqual = refl
no_colon op.ShiftLeft = refl
no_colon op.ShiftRight = refl
no_colon op.Add = refl
no_colon op.Subtract = refl
no_colon op.Multiply = refl
no_colon op.Divide = refl
no_colon op.Remainder = refl

no_colon_unit : (u : TimeUnit) → is_the_symbol s.Colon (t.unit_token u) ≡ false
no_colon_unit unit.Fs = refl
no_colon_unit _ = refl

no_bounds_before : (e : tree.Expression) (n : ℕ) (ts rest : Tokens) → DerivesAt n e ts rest → sees (is_the_symbol s.Colon) rest ≡ false → sees_bounds ts ≡ false
no_bounds_before (tree.number line v) n ts rest h c = rw h.1 c
no_bounds_before (tree.time line v u) n ts rest (k, (a, h, g)) c = rw (h, g.1) (no_colon_unit u)
no_bounds_before (tree.logic line v) n ts rest h c = rw h.1 refl
no_bounds_before (tree.truth line b) n ts rest h c = rw h.1 refl
no_bounds_before (tree.now line) n ts rest h c = rw h.1 refl
no_bounds_before (tree.myself line) n ts rest h c = rw h.1 refl
no_bounds_before (tree.constant line x) n ts rest h c = rw h.1 refl
no_bounds_before (tree.paren line e) n ts rest h c = rw h.1.1 refl
no_bounds_before (tree.convert line x e) n ts rest h c = rw h.1.1 refl
no_bounds_before (tree.to_vector line width e) n ts rest h c = rw h.1.1 refl
no_bounds_before (tree.concat line x y) n ts rest h c = rw h.1.1 refl
no_bounds_before (tree.named line x) n ts rest h c = rw h refl
no_bounds_before (tree.placed line x v) n ts rest h c = rw h.1 refl
no_bounds_before (tree.placed_by line x e) n ts rest h c = rw h.1 refl
no_bounds_before (tree.member e x) n ts rest (a, h, (b, one, two)) c = no_bounds_before e 12 ts a h (rw one.1 refl)
no_bounds_before (tree.element e i) n ts rest (a, h, (b, one, two)) c = no_bounds_before e 12 ts a h (rw one.1 refl)
no_bounds_before (tree.slice e x y) n ts rest (a, h, (b, one, two)) c = no_bounds_before e 12 ts a h (rw one.1 refl)
no_bounds_before (tree.unary line o e) n ts rest h c = rw h.1.1 refl
no_bounds_before (tree.binary o x y) n ts rest (k, (a, left, (b, one, right))) c = no_bounds_before x (level o) ts a left (rw one.1 (no_colon o))

no_bounds : (e : tree.Expression) (ts a rest : Tokens) → DerivesAt 0 e ts a → Takes (t.symbol s.RightBracket) a rest → sees_bounds ts ≡ false
no_bounds e ts a rest h close = no_bounds_before e 0 ts a h (rw close.1 refl)

-- where none place and none link comes
pub no_unit : (ts : Tokens) → sees (λ x. is_some (unit_in x)) ts ≡ false → unit_ahead ts ≡ None
no_unit [] h = refl
no_unit (y ∷ ts) h = none_of (unit_in y.0) h

pub or_parts : (a b : Bool) → (a || b) ≡ false → (a ≡ false) × (b ≡ false)
or_parts true b h = cc
or_parts false b h = (refl, h)

named_parts : (ts : Tokens) → sees (λ x. is_the_symbol s.At x || is_link x) ts ≡ false → (sees (is_the_symbol s.At) ts ≡ false) × (sees is_link ts ≡ false)
named_parts [] h = (refl, refl)
named_parts (y ∷ ts) h = or_parts (is_the_symbol s.At y.0) (is_link y.0) h

chain_ends : (e : tree.Expression) (ts rest : Tokens) → DerivesAt 12 e ts rest → sees (extends e) rest ≡ false → AtFree e rest × (sees is_link rest ≡ false)
chain_ends (tree.named line x) ts rest h k = named_parts rest k
chain_ends (tree.placed line x v) ts rest h k = (tt, k)
chain_ends (tree.placed_by line x e) ts rest h k = (tt, k)
chain_ends (tree.member e x) ts rest h k = (tt, k)
chain_ends (tree.element e i) ts rest h k = (tt, k)
chain_ends (tree.slice e a b) ts rest h k = (tt, k)
chain_ends (tree.binary o a b) ts rest h k = let small = level_small o in absurd (omega (arith, h.0))
chain_ends _ ts rest h k = absurd (omega (arith, h.0))

-- a link's token is none `@`
at_free : (e : tree.Expression) (x : t.Token) (ts rest : Tokens) → is_the_symbol s.At x ≡ false → Takes x ts rest → AtFree e ts
at_free (tree.named line y) x ts rest f h = rw h.1 f
at_free (tree.number line v) x ts rest f h = tt
at_free (tree.time line v u) x ts rest f h = tt
at_free (tree.logic line v) x ts rest f h = tt
at_free (tree.truth line b) x ts rest f h = tt
at_free (tree.now line) x ts rest f h = tt
at_free (tree.myself line) x ts rest f h = tt
at_free (tree.constant line c) x ts rest f h = tt
at_free (tree.paren line e) x ts rest f h = tt
at_free (tree.convert line c e) x ts rest f h = tt
at_free (tree.to_vector line width e) x ts rest f h = tt
at_free (tree.concat line a b) x ts rest f h = tt
at_free (tree.placed line y v) x ts rest f h = tt
at_free (tree.placed_by line y e) x ts rest f h = tt
at_free (tree.member e y) x ts rest f h = tt
at_free (tree.element e i) x ts rest f h = tt
at_free (tree.slice e a b) x ts rest f h = tt
at_free (tree.unary line o e) x ts rest f h = tt
at_free (tree.binary o a b) x ts rest f h = tt

link_comes : (x : t.Token) (ts rest : Tokens) → is_link x ≡ true → Takes x ts rest → at_no_link ts ≡ false
link_comes x ts rest k h = rw (h.1, k) refl

no_link : (ts : Tokens) → sees is_link ts ≡ false → at_no_link ts ≡ true
no_link ts h = rw h refl

-- operands that hold none expression

number_reads_whole : (line v : ℕ) (ts rest : Tokens) → At line (t.number v) ts rest → sees (λ x. is_some (unit_in x)) rest ≡ false → number_or_time ts ≡ Some (tree.number line v, rest)
unfolding number_or_time
number_reads_whole line v ts rest h k = rw (numbered_reads line v ts rest h, no_unit rest k) refl

pub unit_comes : (u : TimeUnit) (ts rest : Tokens) → Takes (t.unit_token u) ts rest → unit_ahead ts ≡ Some u
unit_comes u ts rest h = rw (h.1, named_unit u) refl

time_reads : (line v : ℕ) (u : TimeUnit) (ts a rest : Tokens) → At line (t.number v) ts a → Takes (t.unit_token u) a rest → number_or_time ts ≡ Some (tree.time line v u, rest)
unfolding number_or_time
time_reads line v u ts a rest h g = rw (numbered_reads line v ts a h, unit_comes u a rest g, skip_reads _ g.0 a rest g.1) refl

literal_reads : (line : ℕ) (v : List Digit) (ts rest : Tokens) → At line (t.logic v) ts rest → literal ts ≡ Some (tree.logic line v, rest)
unfolding literal
literal_reads line v ts rest h = rw (logical_reads line v ts rest h) refl

leaf_reads : (l : Leaf) (x : t.Token) (line : ℕ) (ts rest : Tokens) → At line x ts rest → leaf_expression l ts ≡ Some (leaf_tree line l, rest)
unfolding leaf_expression
leaf_reads l x line ts rest h = rw (skip_reads x line ts rest h) refl

member_reads : (e : tree.Expression) (x : List ℕ) (ts a rest : Tokens) → Takes (t.symbol s.Dot) ts a → Takes (t.name x) a rest → member e ts ≡ Some (tree.member e x, rest)
unfolding member
member_reads e x ts a rest h g = rw (symbol_reads s.Dot ts a h, name_reads x a rest g) refl

bounds_come : (v : ℕ) (ts a b : Tokens) → Takes (t.number v) ts a → Takes (t.symbol s.Colon) a b → sees_bounds ts ≡ true
bounds_come v ts a b h g = rw (h.1, symbol_sees s.Colon a b g) refl

-- what stands in brackets, where so many may still be opened
module _ (d : ℕ) (within : Parser tree.Expression) (within_reads : (e : tree.Expression) (ts rest : Tokens) → Short (DerivesAt 0 e) ts rest → suc (depth e) ≤ d → IsOver e rest → within ts ≡ Some (e, rest)) where
  pub group_reads : (line : ℕ) (e : tree.Expression) (ts rest : Tokens) → (At line (t.symbol s.LeftParen) ⨾ Short (DerivesAt 0 e) ⨾ Takes (t.symbol s.RightParen)) ts rest → suc (depth e) ≤ d → group d within ts ≡ Some ((line, e), rest)
  unfolding group
  group_reads line e ts rest (a, one, (b, inner, two)) few =
      rw (opened_reads d s.LeftParen ts a (line, one) (omega (arith, few)), within_reads e a b inner few (over_at _ e b rest refl refl refl refl two), symbol_reads s.RightParen b rest two) refl

  pub parens_read : (e : tree.Expression) (ts rest : Tokens) (h : Parenthesized (DerivesAt 0 e) ts rest) → suc (depth e) ≤ d → group d within ts ≡ Some ((h.1.0, e), rest)
  parens_read e ts rest h few = group_reads h.1.0 e ts rest (h.0, h.1.1, h.2) few

  paren_reads : (line : ℕ) (e : tree.Expression) (ts rest : Tokens) → (At line (t.symbol s.LeftParen) ⨾ Short (DerivesAt 0 e) ⨾ Takes (t.symbol s.RightParen)) ts rest → suc (depth e) ≤ d → paren d within ts ≡ Some (tree.paren line e, rest)
  unfolding paren
  paren_reads line e ts rest h few = rw (group_reads line e ts rest h few) refl

  convert_reads : (line : ℕ) (c : Conversion) (e : tree.Expression) (ts a rest : Tokens) → At line (t.word (conversion_word c)) ts a → Parenthesized (DerivesAt 0 e) a rest → suc (depth e) ≤ d → convert d within c ts ≡ Some (tree.convert line c e, rest)
  unfolding convert
  convert_reads line c e ts a rest h g few = rw (skip_reads _ line ts a h, parens_read e a rest g few) refl

  vector_reads : (line width : ℕ) (e : tree.Expression) (x : t.Token) (ts a b c f rest : Tokens) → At line x ts a → Takes (t.symbol s.Less) a b → Takes (t.number width) b c → Takes (t.symbol s.Greater) c f → Parenthesized (DerivesAt 0 e) f rest → suc (depth e) ≤ d → vector d within ts ≡ Some (tree.to_vector line width e, rest)
  unfolding vector
  vector_reads line width e x ts a b c f rest one two three four five few = rw (skip_reads x line ts a one, symbol_reads s.Less a b two, number_reads width b c three, symbol_reads s.Greater c f four, parens_read e f rest five few) refl

  concat_reads : (line : ℕ) (x y : tree.Expression) (v : t.Token) (ts a b c f g rest : Tokens) → At line v ts a → Takes (t.symbol s.LeftParen) a b → Short (DerivesAt 0 x) b c → Takes (t.symbol s.Comma) c f → Short (DerivesAt 0 y) f g → Takes (t.symbol s.RightParen) g rest → suc (max (depth x) (depth y)) ≤ d → concat d within ts ≡ Some (tree.concat line x y, rest)
  unfolding concat
  concat_reads line x y v ts a b c f g rest one two three four five six few =
      rw (skip_reads v line ts a one, opened_reads d s.LeftParen a b two (omega (arith, few)), within_reads x b c three (omega (arith, few)) (over_at _ x c f refl refl refl refl four), symbol_reads s.Comma c f four, within_reads y f g five (omega (arith, few)) (over_at _ y g rest refl refl refl refl six), symbol_reads s.RightParen g rest six) refl

  -- names and their places

  pub place_numbered : (line : ℕ) (x : List ℕ) (v : ℕ) (ts a rest : Tokens) → Takes (t.symbol s.At) ts a → Takes (t.number v) a rest → place d within (line, x) ts ≡ Some (tree.placed line x v, rest)
  unfolding place
  place_numbered line x v ts a rest h g =
      let inner : placed d within (line, x) a ≡ Some (tree.placed line x v, rest) = rw (number_reads v a rest g) refl in
      let chosen = choose_first sees_number (placed d within (line, x)) (placed_by d within (line, x)) a _ (rw g.1 refl) inner in
      rw (symbol_reads s.At ts a h) chosen

  place_computed : (line : ℕ) (x : List ℕ) (e : tree.Expression) (ts a rest : Tokens) → Takes (t.symbol s.At) ts a → Parenthesized (DerivesAt 0 e) a rest → suc (depth e) ≤ d → place d within (line, x) ts ≡ Some (tree.placed_by line x e, rest)
  unfolding place
  place_computed line x e ts a rest h g few =
      let inner : placed_by d within (line, x) a ≡ Some (tree.placed_by line x e, rest) = rw (parens_read e a rest g few) refl in
      let chosen = choose_other sees_number (placed d within (line, x)) (placed_by d within (line, x)) a _ (rw g.1.1 refl) inner in
      rw (symbol_reads s.At ts a h) chosen

  channel_named : (line : ℕ) (x : List ℕ) (ts rest : Tokens) → At line (t.name x) ts rest → sees (is_the_symbol s.At) rest ≡ false → channel d within ts ≡ Some (tree.named line x, rest)
  unfolding channel
  channel_named line x ts rest h f = rw (named_reads line x ts rest h, f) refl

  channel_placed : (line : ℕ) (x : List ℕ) (e : tree.Expression) (ts a b rest : Tokens) → At line (t.name x) ts a → Takes (t.symbol s.At) a b → place d within (line, x) a ≡ Some (e, rest) → channel d within ts ≡ Some (e, rest)
  unfolding channel
  channel_placed line x e ts a b rest h g p = rw (named_reads line x ts a h, symbol_sees s.At a b g, p) refl

  -- links

  index_element : (e i : tree.Expression) (ts a b rest : Tokens) → Takes (t.symbol s.LeftBracket) ts a → Short (DerivesAt 0 i) a b → Takes (t.symbol s.RightBracket) b rest → suc (depth i) ≤ d → sees_bounds a ≡ false → index d within e ts ≡ Some (tree.element e i, rest)
  unfolding index
  index_element e i ts a b rest one two three few none =
      rw (opened_reads d s.LeftBracket ts a one (omega (arith, few)), none, within_reads i a b two few (over_at _ i b rest refl refl refl refl three), symbol_reads s.RightBracket b rest three) refl

  bounds_read : (e : tree.Expression) (x y : ℕ) (ts a b c rest : Tokens) → Takes (t.number x) ts a → Takes (t.symbol s.Colon) a b → Takes (t.number y) b c → Takes (t.symbol s.RightBracket) c rest → bounds e ts ≡ Some (tree.slice e x y, rest)
  unfolding bounds
  bounds_read e x y ts a b c rest one two three four = rw (number_reads x ts a one, symbol_reads s.Colon a b two, number_reads y b c three, symbol_reads s.RightBracket c rest four) refl

  index_slice : (e : tree.Expression) (x y : ℕ) (ts a b c f rest : Tokens) → Takes (t.symbol s.LeftBracket) ts a → Takes (t.number x) a b → Takes (t.symbol s.Colon) b c → Takes (t.number y) c f → Takes (t.symbol s.RightBracket) f rest → 1 ≤ d → index d within e ts ≡ Some (tree.slice e x y, rest)
  unfolding index
  index_slice e x y ts a b c f rest one two three four five some =
      rw (opened_reads d s.LeftBracket ts a one some, bounds_come x a b c two three, bounds_read e x y a b c f rest two three four five) refl

  link_member : (e : tree.Expression) (x : List ℕ) (ts a rest : Tokens) → Takes (t.symbol s.Dot) ts a → Takes (t.name x) a rest → link d within e ts ≡ Some (tree.member e x, rest)
  unfolding link
  link_member e x ts a rest h g = choose_first (sees (is_the_symbol s.Dot)) (member e) (index d within e) ts _ (symbol_sees s.Dot ts a h) (member_reads e x ts a rest h g)

  link_index : (e y : tree.Expression) (ts a rest : Tokens) → Takes (t.symbol s.LeftBracket) ts a → index d within e ts ≡ Some (y, rest) → link d within e ts ≡ Some (y, rest)
  unfolding link
  link_index e y ts a rest h g = choose_other (sees (is_the_symbol s.Dot)) (member e) (index d within e) ts _ (rw h.1 refl) g

  -- so many turns are left, and what they make of it is what is made of the front
  abbrev After : ℕ → tree.Expression → ℕ → Tokens → Tokens → Type 0
  After m e j ts rest = (left : ℕ) × (suc j ≤ left) × (and_then (channel d within ts) (repeat at_no_link (link d within) m) ≡ repeat at_no_link (link d within) left e rest)

  link_more : (m j : ℕ) (x y : tree.Expression) (ts a rest : Tokens) → After m x (suc j) ts a → at_no_link a ≡ false → link d within x a ≡ Some (y, rest) → After m y j ts rest
  link_more m j x y ts a rest (zero, some, go) none step = absurd (omega arith)
  link_more m j x y ts a rest (suc left, some, go) none step = (left, omega (arith, some), go ∙ repeat_goes at_no_link (link d within) left x y a rest none step)

  links : (e : tree.Expression) (m j : ℕ) (ts rest : Tokens) → DerivesAt 12 e ts rest → depth e ≤ d → AtFree e rest → token_count e + j ≤ m → After m e j ts rest
  links (tree.named line x) m j ts rest h few f turns = (m, omega (arith, turns), rw (channel_named line x ts rest h f) refl)
  links (tree.placed line x v) m j ts rest (a, one, (b, two, three)) few f turns = (m, omega (arith, turns), rw (channel_placed line x (tree.placed line x v) ts a b rest one two (place_numbered line x v a b rest two three)) refl)
  links (tree.placed_by line x e) m j ts rest (a, one, (b, two, three)) few f turns = (m, omega (arith, turns), rw (channel_placed line x (tree.placed_by line x e) ts a b rest one two (place_computed line x e a b rest two three few)) refl)
  links (tree.member e x) m j ts rest (a, inner, (b, one, two)) few f turns =
      link_more m j e (tree.member e x) ts a rest (links e m (suc j) ts a inner few (at_free e _ a b refl one) (omega (arith, turns))) (link_comes _ a b refl one) (link_member e x a b rest one two)
  links (tree.element e i) m j ts rest (a, inner, (b, one, (c, at, two))) few f turns =
      link_more m j e (tree.element e i) ts a rest (links e m (suc j) ts a inner (omega (arith, few)) (at_free e _ a b refl one) (omega (arith, turns))) (link_comes _ a b refl one)
      (link_index e (tree.element e i) a b rest one (index_element e i a b c rest one at two (omega (arith, few)) (no_bounds i b c rest at.0 two)))
  links (tree.slice e x y) m j ts rest (a, inner, (b, one, (c, two, (f', three, (g, four, five))))) few f turns =
      link_more m j e (tree.slice e x y) ts a rest (links e m (suc j) ts a inner (omega (arith, few)) (at_free e _ a b refl one) (omega (arith, turns))) (link_comes _ a b refl one)
      (link_index e (tree.slice e x y) a b rest one (index_slice e x y a b c f' g rest one two three four five (omega (arith, few))))
  links (tree.binary o x y) m j ts rest h few f turns = let small = level_small o in absurd (omega (arith, h.0))
  links _ m j ts rest h few f turns = absurd (omega (arith, h.0))

  chain_reads : (e : tree.Expression) (ts rest : Tokens) → DerivesAt 12 e ts rest → depth e ≤ d → token_count e ≤ 256 → sees (extends e) rest ≡ false → chain d within ts ≡ Some (e, rest)
  unfolding chain
  chain_reads e ts rest h few short k =
      let (free, none) = chain_ends e ts rest h k in
      let (left, some, go) = links e 257 0 ts rest h few free (omega (arith, short)) in
      go ∙ repeat_stops at_no_link (link d within) left e rest (omega (arith, some)) (no_link rest none)

  by_start : (x : Start) (ts : Tokens) (r : tree.Expression × Tokens) → start_of ts ≡ x → primary_of d within x ts ≡ Some r → primary d within ts ≡ Some r
  unfolding primary
  by_start x ts r e h = rw e h

  primary_reads : (e : tree.Expression) (ts rest : Tokens) → DerivesAt 11 e ts rest → depth e ≤ d → token_count e ≤ 256 → sees (extends e) rest ≡ false → primary d within ts ≡ Some (e, rest)
  primary_reads (tree.number line v) ts rest (k, h) few short f = by_start start.Number ts _ (rw h refl) (number_reads_whole line v ts rest h f)
  primary_reads (tree.time line v u) ts rest (k, (a, h, g)) few short f = by_start start.Number ts _ (rw h refl) (time_reads line v u ts a rest h g)
  primary_reads (tree.logic line v) ts rest (k, h) few short f = by_start start.Logic ts _ (rw h refl) (literal_reads line v ts rest h)
  primary_reads (tree.truth line b) ts rest (k, h) few short f = by_start (start.Leaf (leaf.Truth b)) ts _ (rw h (truth_begins b)) (leaf_reads (leaf.Truth b) _ line ts rest h)
  primary_reads (tree.now line) ts rest (k, h) few short f = by_start (start.Leaf leaf.Now) ts _ (rw h refl) (leaf_reads leaf.Now _ line ts rest h)
  primary_reads (tree.myself line) ts rest (k, h) few short f = by_start (start.Leaf leaf.Myself) ts _ (rw h refl) (leaf_reads leaf.Myself _ line ts rest h)
  primary_reads (tree.constant line c) ts rest (k, h) few short f = by_start (start.Leaf (leaf.Constant c)) ts _ (rw h (constant_begins c)) (leaf_reads (leaf.Constant c) _ line ts rest h)
  primary_reads (tree.paren line e) ts rest (k, h) few short f = by_start start.Paren ts _ (rw h.1 refl) (paren_reads line e ts rest h few)
  primary_reads (tree.convert line c e) ts rest (k, (a, h, g)) few short f = by_start (start.Convert c) ts _ (rw h (conversion_begins c)) (convert_reads line c e ts a rest h g few)
  primary_reads (tree.to_vector line width e) ts rest (k, (a, one, (b, two, (c, three, (g, four, five))))) few short f = by_start start.Vector ts _ (rw one refl) (vector_reads line width e _ ts a b c g rest one two three four five few)
  primary_reads (tree.concat line x y) ts rest (k, (a, one, (b, two, (c, three, (g, four, (i, five, six)))))) few short f = by_start start.Concat ts _ (rw one refl) (concat_reads line x y _ ts a b c g i rest one two three four five six few)
  primary_reads (tree.unary line o e) ts rest h few short f = absurd (omega (arith, h.0))
  primary_reads (tree.binary o x y) ts rest h few short f = let small = level_small o in absurd (omega (arith, h.0))
  primary_reads (tree.named line x) ts rest h few short f = by_start start.Name ts _ (name_begins (tree.named line x) ts rest h) (chain_reads (tree.named line x) ts rest h few short f)
  primary_reads (tree.placed line x v) ts rest h few short f = by_start start.Name ts _ (name_begins (tree.placed line x v) ts rest h) (chain_reads (tree.placed line x v) ts rest h few short f)
  primary_reads (tree.placed_by line x e) ts rest h few short f = by_start start.Name ts _ (name_begins (tree.placed_by line x e) ts rest h) (chain_reads (tree.placed_by line x e) ts rest h few short f)
  primary_reads (tree.member e x) ts rest h few short f = by_start start.Name ts _ (name_begins (tree.member e x) ts rest h) (chain_reads (tree.member e x) ts rest h few short f)
  primary_reads (tree.element e i) ts rest h few short f = by_start start.Name ts _ (name_begins (tree.element e i) ts rest h) (chain_reads (tree.element e i) ts rest h few short f)
  primary_reads (tree.slice e x y) ts rest h few short f = by_start start.Name ts _ (name_begins (tree.slice e x y) ts rest h) (chain_reads (tree.slice e x y) ts rest h few short f)

  plain_reads : (e : tree.Expression) (ts rest : Tokens) → DerivesAt 11 e ts rest → depth e ≤ d → token_count e ≤ 256 → sees (extends e) rest ≡ false → operand d within ts ≡ Some (e, rest)
  unfolding operand
  plain_reads e ts rest h few short f = rw (no_sign e ts rest h) (primary_reads e ts rest h few short f)

  sign_comes : (o : UnaryOp) (line : ℕ) (ts rest : Tokens) → At line (t.symbol (unary_symbol o)) ts rest → sign_ahead ts ≡ Some o
  sign_comes o line ts rest h = rw h (sign_symbol o)

  unary_reads : (line : ℕ) (o : UnaryOp) (e : tree.Expression) (ts a rest : Tokens) → At line (t.symbol (unary_symbol o)) ts a → DerivesAt 11 e a rest → depth e ≤ d → token_count e ≤ 256 → sees (extends e) rest ≡ false → operand d within ts ≡ Some (tree.unary line o e, rest)
  unfolding operand unary
  unary_reads line o e ts a rest h g few short f = rw (sign_comes o line ts a h, skip_reads _ line ts a h, primary_reads e a rest g few short f) refl

  operand_reads : (e : tree.Expression) (ts rest : Tokens) → DerivesAt 10 e ts rest → depth e ≤ d → token_count e ≤ 256 → sees (extends e) rest ≡ false → operand d within ts ≡ Some (e, rest)
  operand_reads (tree.unary line o e) ts rest (k, (a, one, inner)) few short f = unary_reads line o e ts a rest one inner few (omega (arith, short)) f
  operand_reads (tree.binary o x y) ts rest h few short f = let small = level_small o in absurd (omega (arith, h.0))
  operand_reads e ts rest h few short f = plain_reads e ts rest (tighter e 10 11 ts rest (omega arith) h) few short f

-- levels

operator_comes : (o : BinaryOp) (ts rest : Tokens) → Takes (t.symbol (binary_symbol o)) ts rest → operator_ahead ts ≡ Some o
operator_comes o ts rest h = rw h.1 (operator_symbol o)

differs_not : (m n : ℕ) → m < n → not (m == n) ≡ true
differs_not m n h = grind (arith, nat_tests)

same_not : (m n : ℕ) → m ≡ n → not (m == n) ≡ false
same_not m n h = grind (arith, nat_tests)

of_own : (n : ℕ) (o : BinaryOp) → level o ≡ n → is_not_of n (Some o) ≡ false
of_own n o e = same_not (level o) n e

stop_at : (n : ℕ) (x : Option BinaryOp) → ((o : BinaryOp) → x ≡ Some o → level o < n) → is_not_of n x ≡ true
stop_at n None free = refl
stop_at n (Some o) free = differs_not (level o) n (free o refl)

same_or_above : (n m : ℕ) → n ≤ m → (m ≡ n) ⊎ (suc n ≤ m)
same_or_above zero zero k = inl refl
same_or_above zero (suc m) k = inr (omega arith)
same_or_above (suc n) zero k = absurd (omega arith)
same_or_above (suc n) (suc m) k = ⊎_elim (λ (e : m ≡ n). inl (ap suc e)) (λ (l : suc n ≤ m). inr (omega (arith, l))) (same_or_above n m (omega arith))

stop_here : (n : ℕ) (ts : Tokens) → NoneFrom n ts → at_none_of n ts ≡ true
stop_here n ts free = stop_at n (operator_ahead ts) free

module _ (n d : ℕ) (ten : n < 10) (next : Parser tree.Expression) (next_reads : (e : tree.Expression) (ts rest : Tokens) → DerivesAt (suc n) e ts rest → depth e ≤ d → token_count e ≤ 256 → sees (extends e) rest ≡ false → NoneFrom (suc n) rest → next ts ≡ Some (e, rest)) where
  abbrev Up : ℕ → tree.Expression → ℕ → Tokens → Tokens → Type 0
  Up m e j ts rest = (left : ℕ) × (suc j ≤ left) × (and_then (next ts) (repeat (at_none_of n) (binary next) m) ≡ repeat (at_none_of n) (binary next) left e rest)

  up_more : (m j : ℕ) (x y : tree.Expression) (ts a rest : Tokens) → Up m x (suc j) ts a → at_none_of n a ≡ false → binary next x a ≡ Some (y, rest) → Up m y j ts rest
  up_more m j x y ts a rest (zero, some, go) none step = absurd (omega arith)
  up_more m j x y ts a rest (suc left, some, go) none step = (left, omega (arith, some), go ∙ repeat_goes (at_none_of n) (binary next) left x y a rest none step)

  binary_reads : (o : BinaryOp) (x y : tree.Expression) (ts a rest : Tokens) → Takes (t.symbol (binary_symbol o)) ts a → next a ≡ Some (y, rest) → binary next x ts ≡ Some (tree.binary o x y, rest)
  unfolding binary
  binary_reads o x y ts a rest h g = rw (operator_comes o ts a h, skip_reads _ h.0 ts a h.1, g) refl

  up_base : (e : tree.Expression) (m j : ℕ) (ts rest : Tokens) → DerivesAt (suc n) e ts rest → depth e ≤ d → token_count e ≤ 256 → sees (extends e) rest ≡ false → NoneFrom (suc n) rest → token_count e + j ≤ m → Up m e j ts rest
  up_base e m j ts rest h few short f free turns =
      let some = some_tokens e in
      (m, omega (arith, turns, some), rw (next_reads e ts rest h few short f free) refl)

  free_at : (o : BinaryOp) (ts rest : Tokens) → level o ≡ n → Takes (t.symbol (binary_symbol o)) ts rest → NoneFrom (suc n) ts
  free_at o ts rest same h p e =
      let q : p ≡ o = same_Some p o (sym e ∙ operator_comes o ts rest h) in
      subst (λ z. level z < suc n) (sym q) (omega (arith, same))

  up : (e : tree.Expression) (m j : ℕ) (ts rest : Tokens) → DerivesAt n e ts rest → depth e ≤ d → token_count e ≤ 256 → sees (extends e) rest ≡ false → NoneFrom (suc n) rest → token_count e + j ≤ m → Up m e j ts rest
  up (tree.binary o x y) m j ts rest (k, (a, left, (b, one, right))) few short f free turns =
      ⊎_elim
      (λ (same : level o ≡ n).
      let left_at : DerivesAt n x ts a = subst (λ z. DerivesAt z x ts a) same left in
      let right_at : DerivesAt (suc n) y b rest = subst (λ z. DerivesAt (suc z) y b rest) same right in
      let none : at_none_of n a ≡ false = rw (operator_comes o a b one) (of_own n o same) in
      let apart : sees (extends x) a ≡ false = rw one.1 (operator_extends_not o x) in
      up_more m j x (tree.binary o x y) ts a rest (up x m (suc j) ts a left_at (omega (arith, few)) (omega (arith, short)) apart (free_at o a b same one) (omega (arith, turns))) none
      (binary_reads o x y a b rest one (next_reads y b rest right_at (omega (arith, few)) (omega (arith, short)) f free)))
      (λ (other : suc n ≤ level o). up_base (tree.binary o x y) m j ts rest (other, (a, left, (b, one, right))) few short f free turns)
      (same_or_above n (level o) k)
  up e m j ts rest h few short f free turns = up_base e m j ts rest (tighter e n (suc n) ts rest (omega (arith, ten)) h) few short f free turns

  levelled_reads : (e : tree.Expression) (ts rest : Tokens) → DerivesAt n e ts rest → depth e ≤ d → token_count e ≤ 256 → sees (extends e) rest ≡ false → NoneFrom n rest → levelled n next ts ≡ Some (e, rest)
  unfolding levelled
  levelled_reads e ts rest h few short f free =
      let (left, some, go) = up e 257 0 ts rest h few short f (λ o is. let less = free o is in omega arith) (omega (arith, short)) in
      go ∙ repeat_stops (at_none_of n) (binary next) left e rest (omega (arith, some)) (stop_here n rest free)

module _ (d : ℕ) (within : Parser tree.Expression) (within_reads : (e : tree.Expression) (ts rest : Tokens) → Short (DerivesAt 0 e) ts rest → suc (depth e) ≤ d → IsOver e rest → within ts ≡ Some (e, rest)) where
  climb_reads : (k n : ℕ) → n + k ≡ 10 → (e : tree.Expression) (ts rest : Tokens) → DerivesAt n e ts rest → depth e ≤ d → token_count e ≤ 256 → sees (extends e) rest ≡ false → NoneFrom n rest → climb d within k n ts ≡ Some (e, rest)
  unfolding climb
  climb_reads zero n ten e ts rest h few short f free =
      let same : n ≡ 10 = omega (arith, ten) in
      operand_reads d within within_reads e ts rest (subst (λ z. DerivesAt z e ts rest) same h) few short f
  climb_reads (suc k) n ten e ts rest h few short f free = levelled_reads n d (omega (arith, ten)) (climb d within k (suc n)) (climb_reads k (suc n) (omega (arith, ten))) e ts rest h few short f free

pub over_parts : (e : tree.Expression) (rest : Tokens) → IsOver e rest → NoneFrom 0 rest × (sees (extends e) rest ≡ false)
over_parts e [] h = (λ o is. cc, refl)
over_parts e (y ∷ ts) h =
    let (one, two) = or_parts (is_some (operator_in y.0)) (extends e y.0) h in
    (λ o is. absurd (cc (rw is at one)), two)

pub short_reads : (p : Parser tree.Expression) (e : tree.Expression) (ts rest : Tokens) → p ts ≡ Some (e, rest) → length ts ≤ 256 + length rest → short p ts ≡ Some (e, rest)
short_reads p e ts rest h few = rw (h, le-leb (length ts) (256 + length rest) few) refl

pub few_tokens : (e : tree.Expression) (ts rest : Tokens) → Short (DerivesAt 0 e) ts rest → token_count e ≤ 256
few_tokens e ts rest h = let one = counted e 0 ts rest h.0 in omega (arith, one, h.1)

pub inside_reads : (d : ℕ) (e : tree.Expression) (ts rest : Tokens) → Short (DerivesAt 0 e) ts rest → suc (depth e) ≤ d → IsOver e rest → inside d ts ≡ Some (e, rest)
unfolding inside
inside_reads zero e ts rest h few over = absurd (omega arith)
inside_reads (suc d) e ts rest h few over =
    let (free, f) = over_parts e rest over in
    short_reads (climb d (inside d) 10 0) e ts rest (climb_reads d (inside d) (inside_reads d) 10 0 refl e ts rest h.0 (omega (arith, few)) (few_tokens e ts rest h) f free) h.1

pub expression_reads : (d : ℕ) (e : tree.Expression) (ts rest : Tokens) → BeginsWith d e ts rest → expression d ts ≡ Some (e, rest)
unfolding expression
expression_reads d e ts rest (h, few, over) =
    let (free, f) = over_parts e rest over in
    short_reads (climb d (inside d) 10 0) e ts rest (climb_reads d (inside d) (inside_reads d) 10 0 refl e ts rest h.0 few (few_tokens e ts rest h) f free) h.1

-- no tokens begin with two
pub begins_one : (d : ℕ) (x y : tree.Expression) (ts a b : Tokens) → BeginsWith d x ts a → BeginsWith d y ts b → (x ≡ y) × (a ≡ b)
begins_one d x y ts a b h g =
    let e : ◌≡◌ {A = tree.Expression × Tokens} (x, a) (y, b) = same_Some (x, a) (y, b) (sym (expression_reads d x ts a h) ∙ expression_reads d y ts b g) in
    (ap (λ (z : tree.Expression × Tokens). z.0) e, ap (λ (z : tree.Expression × Tokens). z.1) e)

-- what an expression begins with

abbrev pub is_a_start : Start → Bool
is_a_start start.Nothing = false
is_a_start _ = true

-- whether an expression may begin with the token
abbrev pub begins_expression : t.Token → Bool
begins_expression x = is_a_start (token_start x) || is_some (sign_in x)

conversion_starts : (c : Conversion) → begins_expression (t.word (conversion_word c)) ≡ true
conversion_starts conversion.Int = refl
conversion_starts conversion.Uint = refl
conversion_starts conversion.Bool = refl
conversion_starts conversion.Logic = refl

sign_starts : (o : UnaryOp) → begins_expression (t.symbol (unary_symbol o)) ≡ true
sign_starts sign.Negate = refl
sign_starts sign.Not = refl
sign_starts sign.Complement = refl

pub expression_begins : (e : tree.Expression) (n : ℕ) (ts rest : Tokens) → DerivesAt n e ts rest → sees begins_expression ts ≡ true
expression_begins (tree.number line v) n ts rest h = rw h.1 refl
expression_begins (tree.time line v u) n ts rest h = rw h.1.1 refl
expression_begins (tree.logic line v) n ts rest h = rw h.1 refl
expression_begins (tree.truth line b) n ts rest h = rw (h.1, truth_begins b) refl
expression_begins (tree.now line) n ts rest h = rw h.1 refl
expression_begins (tree.myself line) n ts rest h = rw h.1 refl
expression_begins (tree.constant line c) n ts rest h = rw (h.1, constant_begins c) refl
expression_begins (tree.paren line e) n ts rest h = rw h.1.1 refl
expression_begins (tree.convert line c e) n ts rest h = rw h.1.1 (conversion_starts c)
expression_begins (tree.to_vector line width e) n ts rest h = rw h.1.1 refl
expression_begins (tree.concat line x y) n ts rest h = rw h.1.1 refl
expression_begins (tree.named line x) n ts rest h = rw h refl
expression_begins (tree.placed line x v) n ts rest h = rw h.1 refl
expression_begins (tree.placed_by line x e) n ts rest h = rw h.1 refl
expression_begins (tree.member e x) n ts rest h = expression_begins e 12 ts h.0 h.1
expression_begins (tree.element e i) n ts rest h = expression_begins e 12 ts h.0 h.1
expression_begins (tree.slice e a b) n ts rest h = expression_begins e 12 ts h.0 h.1
expression_begins (tree.unary line o e) n ts rest h = rw h.1.1 (sign_starts o)
expression_begins (tree.binary o x y) n ts rest (k, (a, left, more)) = expression_begins x (level o) ts a left

-- none that no expression begins with comes where one does
pub begins_not : (test : t.Token → Bool) → ((x : t.Token) → begins_expression x ≡ true → test x ≡ false) → (ts : Tokens) → sees begins_expression ts ≡ true → sees test ts ≡ false
begins_not test f [] h = refl
begins_not test f (x ∷ ts) h = f x.0 h

symbol_is_not : (v : Symbol) → begins_expression (t.symbol v) ≡ false → (x : t.Token) → begins_expression x ≡ true → is_the_symbol v x ≡ false
symbol_is_not v f x h =
    ⊎_elim
    (λ (e : is_the_symbol v x ≡ true). let same = is_symbol_same v x e in absurd (cc (sym (rw same at h) ∙ f)))
    (λ (e : is_the_symbol v x ≡ false). e)
    (cases_Bool (is_the_symbol v x))

-- no expression begins with a symbol that begins none: the premise on it is `refl`
pub symbol_begins_not : (v : Symbol) → begins_expression (t.symbol v) ≡ false → (e : tree.Expression) (n : ℕ) (ts rest : Tokens) → DerivesAt n e ts rest → sees (is_the_symbol v) ts ≡ false
symbol_begins_not v f e n ts rest h = begins_not (is_the_symbol v) (symbol_is_not v f) ts (expression_begins e n ts rest h)

pub at_begins_none : (e : tree.Expression) (n : ℕ) (ts rest : Tokens) → DerivesAt n e ts rest → sees (is_the_symbol s.At) ts ≡ false
at_begins_none = symbol_begins_not s.At refl

pub semicolon_begins_none : (e : tree.Expression) (n : ℕ) (ts rest : Tokens) → DerivesAt n e ts rest → sees (is_the_symbol s.Semicolon) ts ≡ false
semicolon_begins_none = symbol_begins_not s.Semicolon refl

pub right_paren_begins_none : (e : tree.Expression) (n : ℕ) (ts rest : Tokens) → DerivesAt n e ts rest → sees (is_the_symbol s.RightParen) ts ≡ false
right_paren_begins_none = symbol_begins_not s.RightParen refl
