-- What the parser functions of one token read.
use Rattle.std.proofs.Common.{◌≡◌, ℕ, zero, suc, ◌<◌, ◌≤◌, Bool, true, false, cond, List, [], ◌∷◌, Option, Some, None, refl, ap, sym, subst, arith}
use Rattle.std.specs.Prelude.{codes}
use Rattle.std.specs.Str.{bytes_eq}
use Rattle.std.proofs.lemmas.Bool.{eqb-true, eq-eqb}
use Rattle.std.proofs.lemmas.Option.{cond_some}
use Rattle.std.proofs.lemmas.Slice.Eq.{bytes_eq-Decides}
use denote.Enum.Bare.{sameb, same_true, true_same}
use Rattle.model_lexer.specs.LogicValues.declared.kinds.Digit.{Digit}
use Rattle.model_lexer.specs.SimTime.declared.moments.Unit.{Unit as TimeUnit}
use Rattle.model_lexer.specs.SimTime.declared.moments.Unit.TheVariants as unit
use Rattle.model_tree.specs.contracts.vocabulary.Symbol.{the_type as the_symbol}
use Rattle.model_tree.specs.contracts.vocabulary.Word.{the_type as the_word}
use Rattle.model_tree.specs.declared.vocabulary.Word.{Word}
use Rattle.model_tree.specs.declared.vocabulary.Word.TheVariants as w
use Rattle.model_tree.specs.declared.vocabulary.Symbol.{Symbol}
use Rattle.model_tree.specs.declared.vocabulary.Symbol.TheVariants as s
use Rattle.model_tree.specs.declared.expressions.UnaryOp.{UnaryOp}
use Rattle.model_tree.specs.declared.expressions.UnaryOp.TheVariants as sign
use Rattle.model_tree.specs.declared.expressions.BinaryOp.{BinaryOp}
use Rattle.model_tree.specs.declared.expressions.BinaryOp.TheVariants as op
use Rattle.model_tree.specs.declared.expressions.Conversion.{Conversion}
use Rattle.model_tree.specs.declared.expressions.Conversion.TheVariants as conversion
use Rattle.model_tree.specs.declared.expressions.NamedConstant.{NamedConstant}
use Rattle.model_tree.specs.declared.expressions.NamedConstant.TheVariants as constant
use Rattle.model_lexer.specs.Tokens as t
use Rattle.model_lexer.specs.Tokens.{Tokens}
use Rattle.model_lexer.specs.Rules.{At, Takes, Written}
use Rattle.parse_expressions.specs.declared.starts.Leaf.{Leaf}
use Rattle.parse_expressions.specs.declared.starts.Leaf.TheVariants as leaf
use Rattle.parse_expressions.specs.declared.starts.Start.{Start}
use Rattle.parse_expressions.specs.declared.starts.Start.TheVariants as start
use Rattle.model_lexer.specs.Expressions.{operator_of, operator_in, unit_of, unit_in, is_the_symbol, sees}
use Rattle.model_tree.specs.Spelling.{unary_symbol, binary_symbol, truth_word, conversion_word, constant_word}
use Rattle.parse_expressions.specs.Parse.{skip, symbol, named, name_in, name, numbered, number_in, number, is_the_number, this_number, logical, logic_in, opened, operator_ahead, sign_of, sign_in, sign_ahead, word_start, symbol_start, token_start, start_of, pure, is_the_word, word, true_behind, flag, text_in, text}
use Rattle.parse_expressions.proofs.Parsers.{and_then_ok, choose_cases, choose_first, choose_other}

pub is_symbol_same : (v : Symbol) (x : t.Token) → is_the_symbol v x ≡ true → x ≡ t.symbol v
is_symbol_same v (t.name x) h = cc
is_symbol_same v (t.number x) h = cc
is_symbol_same v (t.logic x) h = cc
is_symbol_same v (t.quoted x) h = cc
is_symbol_same v (t.word u) h = cc
is_symbol_same v (t.symbol u) h = ap t.symbol (same_true the_symbol tt u v h)

-- a token at the front, as it is known to be
pub at_front : (y x : t.Token) (line : ℕ) (ts : Tokens) → y ≡ x → At line x ((y, line) ∷ ts) ts
at_front y x line ts e = λ i. (e i, line) ∷ ts

pub skip_some : (y : t.Token × ℕ) (ts rest : Tokens) (line : ℕ) (x : t.Token) → y.0 ≡ x → skip (y ∷ ts) ≡ Some (line, rest) → At line x (y ∷ ts) rest
unfolding skip
skip_some y ts rest line x e h =
    let p : ◌≡◌ {A = ℕ × Tokens} (y.1, ts) (line, rest) = cc h in
    subst (λ (z : ℕ × Tokens). At z.0 x (y ∷ ts) z.1) p (at_front y.0 x y.1 ts e)

pub symbol_at : (v : Symbol) (ts rest : Tokens) (line : ℕ) → symbol v ts ≡ Some (line, rest) → At line (t.symbol v) ts rest
unfolding symbol
symbol_at v [] rest line h = cc
symbol_at v (y ∷ ts) rest line h =
    let e = cond_some (is_the_symbol v y.0) (y.1, ts) (line, rest) h in
    let p : ◌≡◌ {A = ℕ × Tokens} (y.1, ts) (line, rest) = e.1 in
    subst (λ (z : ℕ × Tokens). At z.0 (t.symbol v) (y ∷ ts) z.1) p (at_front y.0 (t.symbol v) y.1 ts (is_symbol_same v y.0 e.0))

is_number_same : (n : ℕ) (x : t.Token) → is_the_number n x ≡ true → x ≡ t.number n
is_number_same n (t.name x) h = cc
is_number_same n (t.number m) h = ap t.number (eqb-true m n h)
is_number_same n (t.logic x) h = cc
is_number_same n (t.quoted x) h = cc
is_number_same n (t.word u) h = cc
is_number_same n (t.symbol u) h = cc

pub this_number_ok : (n : ℕ) (ts rest : Tokens) (line : ℕ) → this_number n ts ≡ Some (line, rest) → Takes (t.number n) ts rest
unfolding this_number
this_number_ok n [] rest line h = cc
this_number_ok n (y ∷ ts) rest line h =
    let e = cond_some (is_the_number n y.0) (y.1, ts) (line, rest) h in
    let p : ◌≡◌ {A = ℕ × Tokens} (y.1, ts) (line, rest) = e.1 in
    (line, subst (λ (z : ℕ × Tokens). At z.0 (t.number n) (y ∷ ts) z.1) p (at_front y.0 (t.number n) y.1 ts (is_number_same n y.0 e.0)))

pub symbol_ok : (v : Symbol) (ts rest : Tokens) (line : ℕ) → symbol v ts ≡ Some (line, rest) → Takes (t.symbol v) ts rest
symbol_ok v ts rest line h = (line, symbol_at v ts rest line h)

pub opened_ok : (d : ℕ) (v : Symbol) (ts rest : Tokens) (line : ℕ) → opened d v ts ≡ Some (line, rest) → At line (t.symbol v) ts rest × (1 ≤ d)
unfolding opened
opened_ok zero v ts rest line h = cc
opened_ok (suc d) v ts rest line h = (symbol_at v ts rest line h, omega arith)

-- where no bracket may be opened, and where one may
pub opened_none : (d : ℕ) (v : Symbol) (ts : Tokens) → d ≡ 0 → opened d v ts ≡ None
unfolding opened
opened_none zero v ts e = refl
opened_none (suc d) v ts e = absurd (omega arith)

pub opened_deeper : (d : ℕ) (v : Symbol) → 0 < d → opened d v ≡ symbol v
unfolding opened
opened_deeper zero v some = absurd (omega arith)
opened_deeper (suc d) v some = refl

-- words and texts

pub is_word_same : (v : Word) (x : t.Token) → is_the_word v x ≡ true → x ≡ t.word v
is_word_same v (t.name x) h = cc
is_word_same v (t.number x) h = cc
is_word_same v (t.logic x) h = cc
is_word_same v (t.quoted x) h = cc
is_word_same v (t.symbol u) h = cc
is_word_same v (t.word u) h = ap t.word (same_true the_word tt u v h)

pub this_word_at : (v : Word) (ts rest : Tokens) (line : ℕ) → word v ts ≡ Some (line, rest) → At line (t.word v) ts rest
unfolding word
this_word_at v [] rest line h = cc
this_word_at v (y ∷ ts) rest line h =
    let e = cond_some (is_the_word v y.0) (y.1, ts) (line, rest) h in
    let p : ◌≡◌ {A = ℕ × Tokens} (y.1, ts) (line, rest) = e.1 in
    subst (λ (z : ℕ × Tokens). At z.0 (t.word v) (y ∷ ts) z.1) p (at_front y.0 (t.word v) y.1 ts (is_word_same v y.0 e.0))

pub word_ok : (v : Word) (ts rest : Tokens) (line : ℕ) → word v ts ≡ Some (line, rest) → Takes (t.word v) ts rest
word_ok v ts rest line h = (line, this_word_at v ts rest line h)

text_in_ok : (y : t.Token) (line : ℕ) (ts rest : Tokens) (x : List ℕ) → text_in y ts ≡ Some (x, rest) → Takes (t.quoted x) ((y, line) ∷ ts) rest
text_in_ok (t.quoted z) line ts rest x h =
    let e : ◌≡◌ {A = List ℕ × Tokens} (z, ts) (x, rest) = cc in
    subst (λ (p : List ℕ × Tokens). Takes (t.quoted p.0) ((t.quoted z, line) ∷ ts) p.1) e (line, refl)
text_in_ok (t.name z) line ts rest x h = cc
text_in_ok (t.number z) line ts rest x h = cc
text_in_ok (t.logic z) line ts rest x h = cc
text_in_ok (t.word z) line ts rest x h = cc
text_in_ok (t.symbol z) line ts rest x h = cc

pub text_ok : (ts rest : Tokens) (x : List ℕ) → text ts ≡ Some (x, rest) → Takes (t.quoted x) ts rest
unfolding text
text_ok [] rest x h = cc
text_ok (y ∷ ts) rest x h = text_in_ok y.0 y.1 ts rest x h

pub flag_ok : (v : Word) (ts rest : Tokens) (b : Bool) → flag v ts ≡ Some (b, rest) → Written (t.word v) b ts rest
unfolding flag
flag_ok v ts rest b h =
    choose_cases (sees (is_the_word v)) (true_behind v) (pure false) ts (b, rest) h
    (λ is h1.
    let (line, mid, one, more) = and_then_ok (word v ts) _ (b, rest) h1 in
    let e : ◌≡◌ {A = Bool × Tokens} (true, mid) (b, rest) = cc more in
    subst (λ (z : Bool × Tokens). Written (t.word v) z.0 ts z.1) e (word_ok v ts mid line one))
    (λ is h1.
    let e : ◌≡◌ {A = Bool × Tokens} (false, ts) (b, rest) = cc h1 in
    subst (λ (z : Bool × Tokens). Written (t.word v) z.0 ts z.1) e refl)

name_in_ok : (y : t.Token) (line : ℕ) (ts rest : Tokens) (x : ℕ × List ℕ) → name_in y line ts ≡ Some (x, rest) → At x.0 (t.name x.1) ((y, line) ∷ ts) rest
name_in_ok (t.name z) line ts rest x h =
    let e : ◌≡◌ {A = (ℕ × List ℕ) × Tokens} ((line, z), ts) (x, rest) = cc in
    subst (λ (p : (ℕ × List ℕ) × Tokens). At p.0.0 (t.name p.0.1) ((t.name z, line) ∷ ts) p.1) e refl
name_in_ok (t.number z) line ts rest x h = cc
name_in_ok (t.logic z) line ts rest x h = cc
name_in_ok (t.quoted z) line ts rest x h = cc
name_in_ok (t.word z) line ts rest x h = cc
name_in_ok (t.symbol z) line ts rest x h = cc

pub named_ok : (ts rest : Tokens) (x : ℕ × List ℕ) → named ts ≡ Some (x, rest) → At x.0 (t.name x.1) ts rest
unfolding named
named_ok [] rest x h = cc
named_ok (y ∷ ts) rest x h = name_in_ok y.0 y.1 ts rest x h

pub name_ok : (ts rest : Tokens) (x : List ℕ) → name ts ≡ Some (x, rest) → Takes (t.name x) ts rest
unfolding name
name_ok ts rest x h =
    let (y, mid, one, more) = and_then_ok (named ts) _ (x, rest) h in
    let e : ◌≡◌ {A = List ℕ × Tokens} (y.1, mid) (x, rest) = cc more in
    subst (λ (z : List ℕ × Tokens). Takes (t.name z.0) ts z.1) e (y.0, named_ok ts mid y one)

number_in_ok : (y : t.Token) (line : ℕ) (ts rest : Tokens) (x : ℕ × ℕ) → number_in y line ts ≡ Some (x, rest) → At x.0 (t.number x.1) ((y, line) ∷ ts) rest
number_in_ok (t.number z) line ts rest x h =
    let e : ◌≡◌ {A = (ℕ × ℕ) × Tokens} ((line, z), ts) (x, rest) = cc in
    subst (λ (p : (ℕ × ℕ) × Tokens). At p.0.0 (t.number p.0.1) ((t.number z, line) ∷ ts) p.1) e refl
number_in_ok (t.name z) line ts rest x h = cc
number_in_ok (t.logic z) line ts rest x h = cc
number_in_ok (t.quoted z) line ts rest x h = cc
number_in_ok (t.word z) line ts rest x h = cc
number_in_ok (t.symbol z) line ts rest x h = cc

pub numbered_ok : (ts rest : Tokens) (x : ℕ × ℕ) → numbered ts ≡ Some (x, rest) → At x.0 (t.number x.1) ts rest
unfolding numbered
numbered_ok [] rest x h = cc
numbered_ok (y ∷ ts) rest x h = number_in_ok y.0 y.1 ts rest x h

pub number_ok : (ts rest : Tokens) (x : ℕ) → number ts ≡ Some (x, rest) → Takes (t.number x) ts rest
unfolding number
number_ok ts rest x h =
    let (y, mid, one, more) = and_then_ok (numbered ts) _ (x, rest) h in
    let e : ◌≡◌ {A = ℕ × Tokens} (y.1, mid) (x, rest) = cc more in
    subst (λ (z : ℕ × Tokens). Takes (t.number z.0) ts z.1) e (y.0, numbered_ok ts mid y one)

logic_in_ok : (y : t.Token) (line : ℕ) (ts rest : Tokens) (x : ℕ × List Digit) → logic_in y line ts ≡ Some (x, rest) → At x.0 (t.logic x.1) ((y, line) ∷ ts) rest
logic_in_ok (t.logic z) line ts rest x h =
    let e : ◌≡◌ {A = (ℕ × List Digit) × Tokens} ((line, z), ts) (x, rest) = cc in
    subst (λ (p : (ℕ × List Digit) × Tokens). At p.0.0 (t.logic p.0.1) ((t.logic z, line) ∷ ts) p.1) e refl
logic_in_ok (t.name z) line ts rest x h = cc
logic_in_ok (t.number z) line ts rest x h = cc
logic_in_ok (t.quoted z) line ts rest x h = cc
logic_in_ok (t.word z) line ts rest x h = cc
logic_in_ok (t.symbol z) line ts rest x h = cc

pub logical_ok : (ts rest : Tokens) (x : ℕ × List Digit) → logical ts ≡ Some (x, rest) → At x.0 (t.logic x.1) ts rest
unfolding logical
logical_ok [] rest x h = cc
logical_ok (y ∷ ts) rest x h = logic_in_ok y.0 y.1 ts rest x h

-- tables, both ways

unit_if : (b : Bool) (y : t.Token) (v u : TimeUnit) (o : Option TimeUnit) → (b ≡ true → y ≡ t.unit_token v) → (o ≡ Some u → y ≡ t.unit_token u) → cond b (Some v) o ≡ Some u → y ≡ t.unit_token u
unit_if true y v u o f g h = let e : v ≡ u = cc in subst (λ z. y ≡ t.unit_token z) e (f refl)
unit_if false y v u o f g h = g h

spelled_so : (x y : List ℕ) → bytes_eq x y ≡ true → t.name x ≡ t.name y
spelled_so x y e = ap t.name ((bytes_eq-Decides x y).0 e)

pub unit_named : (x : List ℕ) (u : TimeUnit) → unit_of x ≡ Some u → t.name x ≡ t.unit_token u
unit_named x u h =
    unit_if (bytes_eq x (codes "ps")) (t.name x) unit.Ps u _ (spelled_so x (codes "ps"))
    (λ h. unit_if (bytes_eq x (codes "ns")) (t.name x) unit.Ns u _ (spelled_so x (codes "ns"))
    (λ h. unit_if (bytes_eq x (codes "us")) (t.name x) unit.Us u _ (spelled_so x (codes "us"))
    (λ h. unit_if (bytes_eq x (codes "ms")) (t.name x) unit.Ms u _ (spelled_so x (codes "ms"))
    (λ h. unit_if (bytes_eq x (codes "s")) (t.name x) unit.S u None (spelled_so x (codes "s")) (λ h. cc) h) h) h) h) h

pub unit_in_named : (y : t.Token) (u : TimeUnit) → unit_in y ≡ Some u → y ≡ t.unit_token u
unit_in_named (t.name x) u h = unit_named x u h
unit_in_named (t.number x) u h = cc
unit_in_named (t.logic x) u h = cc
unit_in_named (t.quoted x) u h = cc
unit_in_named (t.word x) u h = unit_if (sameb the_word x w.Fs) (t.word x) unit.Fs u None (λ e. ap t.word (same_true the_word tt x w.Fs e)) (λ h. cc) h
unit_in_named (t.symbol x) u h = cc

pub named_unit : (u : TimeUnit) → unit_in (t.unit_token u) ≡ Some u
named_unit unit.Fs = refl
named_unit unit.Ps = refl
named_unit unit.Ns = refl
named_unit unit.Us = refl
named_unit unit.Ms = refl
named_unit unit.S = refl

pub operator_symbol : (o : BinaryOp) → operator_of (binary_symbol o) ≡ Some o
operator_symbol op.OrElse = refl
operator_symbol op.AndThen = refl
operator_symbol op.BitOr = refl
operator_symbol op.BitXor = refl
operator_symbol op.BitAnd = refl
operator_symbol op.Equal = refl
operator_symbol op.NotEqual = refl
operator_symbol op.Less = refl
operator_symbol op.LessEqual = refl
operator_symbol op.Greater = refl
operator_symbol op.GreaterEqual = refl
operator_symbol op.ShiftLeft = refl
operator_symbol op.ShiftRight = refl
operator_symbol op.Add = refl
operator_symbol op.Subtract = refl
operator_symbol op.Multiply = refl
operator_symbol op.Divide = refl
operator_symbol op.Remainder = refl

symbol_case : (v : Symbol) (p o : BinaryOp) → v ≡ binary_symbol p → ◌≡◌ {A = Option BinaryOp} (Some p) (Some o) → v ≡ binary_symbol o
symbol_case v p o e h = let q : p ≡ o = cc h in subst (λ z. v ≡ binary_symbol z) q e

symbol_operator : (v : Symbol) (o : BinaryOp) → operator_of v ≡ Some o → v ≡ binary_symbol o
symbol_operator s.LessEqual o h = symbol_case s.LessEqual op.LessEqual o refl h
symbol_operator s.GreaterEqual o h = symbol_case s.GreaterEqual op.GreaterEqual o refl h
symbol_operator s.EqualEqual o h = symbol_case s.EqualEqual op.Equal o refl h
symbol_operator s.NotEqual o h = symbol_case s.NotEqual op.NotEqual o refl h
symbol_operator s.ShiftLeft o h = symbol_case s.ShiftLeft op.ShiftLeft o refl h
symbol_operator s.ShiftRight o h = symbol_case s.ShiftRight op.ShiftRight o refl h
symbol_operator s.AndAnd o h = symbol_case s.AndAnd op.AndThen o refl h
symbol_operator s.OrOr o h = symbol_case s.OrOr op.OrElse o refl h
symbol_operator s.Less o h = symbol_case s.Less op.Less o refl h
symbol_operator s.Greater o h = symbol_case s.Greater op.Greater o refl h
symbol_operator s.Plus o h = symbol_case s.Plus op.Add o refl h
symbol_operator s.Minus o h = symbol_case s.Minus op.Subtract o refl h
symbol_operator s.Star o h = symbol_case s.Star op.Multiply o refl h
symbol_operator s.Slash o h = symbol_case s.Slash op.Divide o refl h
symbol_operator s.Percent o h = symbol_case s.Percent op.Remainder o refl h
symbol_operator s.Ampersand o h = symbol_case s.Ampersand op.BitAnd o refl h
symbol_operator s.Bar o h = symbol_case s.Bar op.BitOr o refl h
symbol_operator s.Caret o h = symbol_case s.Caret op.BitXor o refl h
symbol_operator _ o h = cc

pub operator_is : (y : t.Token) (o : BinaryOp) → operator_in y ≡ Some o → y ≡ t.symbol (binary_symbol o)
operator_is (t.name x) o h = cc
operator_is (t.number x) o h = cc
operator_is (t.logic x) o h = cc
operator_is (t.quoted x) o h = cc
operator_is (t.word x) o h = cc
operator_is (t.symbol x) o h = ap t.symbol (symbol_operator x o h)

sign_case : (v : Symbol) (p o : UnaryOp) → v ≡ unary_symbol p → ◌≡◌ {A = Option UnaryOp} (Some p) (Some o) → v ≡ unary_symbol o
sign_case v p o e h = let q : p ≡ o = cc h in subst (λ z. v ≡ unary_symbol z) q e

symbol_sign : (v : Symbol) (o : UnaryOp) → sign_of v ≡ Some o → v ≡ unary_symbol o
symbol_sign s.Minus o h = sign_case s.Minus sign.Negate o refl h
symbol_sign s.Bang o h = sign_case s.Bang sign.Not o refl h
symbol_sign s.Tilde o h = sign_case s.Tilde sign.Complement o refl h
symbol_sign _ o h = cc

sign_is : (y : t.Token) (o : UnaryOp) → sign_in y ≡ Some o → y ≡ t.symbol (unary_symbol o)
sign_is (t.name x) o h = cc
sign_is (t.number x) o h = cc
sign_is (t.logic x) o h = cc
sign_is (t.quoted x) o h = cc
sign_is (t.word x) o h = cc
sign_is (t.symbol x) o h = ap t.symbol (symbol_sign x o h)

pub sign_at : (o : UnaryOp) (line : ℕ) (ts rest : Tokens) → sign_ahead ts ≡ Some o → skip ts ≡ Some (line, rest) → At line (t.symbol (unary_symbol o)) ts rest
sign_at o line [] rest h k = cc
sign_at o line (y ∷ ts) rest h k = skip_some y ts rest line _ (sign_is y.0 o h) k

pub operator_at : (o : BinaryOp) (line : ℕ) (ts rest : Tokens) → operator_ahead ts ≡ Some o → skip ts ≡ Some (line, rest) → At line (t.symbol (binary_symbol o)) ts rest
operator_at o line [] rest h k = cc
operator_at o line (y ∷ ts) rest h k = skip_some y ts rest line _ (operator_is y.0 o h) k

-- the word that a leaf is
abbrev pub leaf_word : Leaf → Word
leaf_word (leaf.Truth b) = truth_word b
leaf_word leaf.Now = w.Now
leaf_word leaf.Myself = w.SelfProcess
leaf_word (leaf.Constant c) = constant_word c

-- what begins an operand
abbrev Begins : Word → Start → Type 0
Begins v (start.Leaf l) = v ≡ leaf_word l
Begins v (start.Convert c) = v ≡ conversion_word c
Begins v start.Vector = v ≡ w.Lv
Begins v start.Concat = v ≡ w.Concat
Begins v _ = Unit {0}

word_begins : (v : Word) → Begins v (word_start v)
word_begins w.True = refl
word_begins w.False = refl
word_begins w.Now = refl
word_begins w.SelfProcess = refl
word_begins w.ReadCommand = refl
word_begins w.WriteCommand = refl
word_begins w.IgnoreCommand = refl
word_begins w.OkResponse = refl
word_begins w.IncompleteResponse = refl
word_begins w.GenericResponse = refl
word_begins w.AddressResponse = refl
word_begins w.CommandResponse = refl
word_begins w.BurstResponse = refl
word_begins w.ByteEnableResponse = refl
word_begins w.BeginReq = refl
word_begins w.EndReq = refl
word_begins w.BeginResp = refl
word_begins w.EndResp = refl
word_begins w.Accepted = refl
word_begins w.Updated = refl
word_begins w.Completed = refl
word_begins w.Int = refl
word_begins w.Uint = refl
word_begins w.Bool = refl
word_begins w.Logic = refl
word_begins w.Lv = refl
word_begins w.Concat = refl
word_begins _ = tt

-- whether a start is one of a word
abbrev IsOfWord : Start → Type 0
IsOfWord (start.Leaf l) = Unit {0}
IsOfWord (start.Convert c) = Unit {0}
IsOfWord start.Vector = Unit {0}
IsOfWord start.Concat = Unit {0}
IsOfWord _ = ⊥

no_word : (v : Symbol) (x : Start) → symbol_start v ≡ x → IsOfWord x → ⊥
no_word s.LeftParen x h k = subst IsOfWord (sym h) k
no_word _ x h k = subst IsOfWord (sym h) k

token_begins : (y : t.Token) (x : Start) → token_start y ≡ x → IsOfWord x → (v : Word) × (y ≡ t.word v) × Begins v x
token_begins (t.word v) x h k = (v, refl, subst (Begins v) h (word_begins v))
token_begins (t.symbol v) x h k = absurd (no_word v x h k)
token_begins (t.name z) x h k = absurd (subst IsOfWord (sym h) k)
token_begins (t.number z) x h k = absurd (subst IsOfWord (sym h) k)
token_begins (t.logic z) x h k = absurd (subst IsOfWord (sym h) k)
token_begins (t.quoted z) x h k = absurd (subst IsOfWord (sym h) k)

start_begins : (x : Start) (line : ℕ) (ts rest : Tokens) → start_of ts ≡ x → IsOfWord x → skip ts ≡ Some (line, rest) → (v : Word) × At line (t.word v) ts rest × Begins v x
start_begins x line [] rest h k e = absurd (subst IsOfWord (sym h) k)
start_begins x line (y ∷ ts) rest h k e =
    let (v, is, begins) = token_begins y.0 x h k in
    (v, skip_some y ts rest line (t.word v) is e, begins)

word_at : (v u : Word) (line : ℕ) (ts rest : Tokens) → v ≡ u → At line (t.word v) ts rest → At line (t.word u) ts rest
word_at v u line ts rest e h = subst (λ z. At line (t.word z) ts rest) e h

pub leaf_at : (l : Leaf) (line : ℕ) (ts rest : Tokens) → start_of ts ≡ start.Leaf l → skip ts ≡ Some (line, rest) → At line (t.word (leaf_word l)) ts rest
leaf_at l line ts rest h e = let (v, one, is) = start_begins (start.Leaf l) line ts rest h tt e in word_at v _ line ts rest is one

pub conversion_at : (c : Conversion) (line : ℕ) (ts rest : Tokens) → start_of ts ≡ start.Convert c → skip ts ≡ Some (line, rest) → At line (t.word (conversion_word c)) ts rest
conversion_at c line ts rest h e = let (v, one, is) = start_begins (start.Convert c) line ts rest h tt e in word_at v _ line ts rest is one

pub vector_at : (line : ℕ) (ts rest : Tokens) → start_of ts ≡ start.Vector → skip ts ≡ Some (line, rest) → At line (t.word w.Lv) ts rest
vector_at line ts rest h e = let (v, one, is) = start_begins start.Vector line ts rest h tt e in word_at v _ line ts rest is one

pub concat_at : (line : ℕ) (ts rest : Tokens) → start_of ts ≡ start.Concat → skip ts ≡ Some (line, rest) → At line (t.word w.Concat) ts rest
concat_at line ts rest h e = let (v, one, is) = start_begins start.Concat line ts rest h tt e in word_at v _ line ts rest is one

pub truth_begins : (b : Bool) → word_start (truth_word b) ≡ start.Leaf (leaf.Truth b)
truth_begins true = refl
truth_begins false = refl

pub conversion_begins : (c : Conversion) → word_start (conversion_word c) ≡ start.Convert c
conversion_begins conversion.Int = refl
conversion_begins conversion.Uint = refl
conversion_begins conversion.Bool = refl
conversion_begins conversion.Logic = refl

pub constant_begins : (c : NamedConstant) → word_start (constant_word c) ≡ start.Leaf (leaf.Constant c)
constant_begins constant.Read = refl
constant_begins constant.Write = refl
constant_begins constant.Ignore = refl
constant_begins constant.OkResponse = refl
constant_begins constant.Incomplete = refl
constant_begins constant.GenericError = refl
constant_begins constant.AddressError = refl
constant_begins constant.CommandError = refl
constant_begins constant.BurstError = refl
constant_begins constant.ByteEnableError = refl
constant_begins constant.BeginReq = refl
constant_begins constant.EndReq = refl
constant_begins constant.BeginResp = refl
constant_begins constant.EndResp = refl
constant_begins constant.Accepted = refl
constant_begins constant.Updated = refl
constant_begins constant.Completed = refl

pub sign_symbol : (o : UnaryOp) → sign_of (unary_symbol o) ≡ Some o
sign_symbol sign.Negate = refl
sign_symbol sign.Not = refl
sign_symbol sign.Complement = refl

-- what is there is read

pub skip_reads : (x : t.Token) (line : ℕ) (ts rest : Tokens) → At line x ts rest → skip ts ≡ Some (line, rest)
unfolding skip
skip_reads x line ts rest h = rw h refl

pub symbol_reads : (v : Symbol) (ts rest : Tokens) (h : Takes (t.symbol v) ts rest) → symbol v ts ≡ Some (h.0, rest)
unfolding symbol
symbol_reads v ts rest h = rw (h.1, true_same the_symbol v v refl) refl

pub this_number_reads : (n : ℕ) (ts rest : Tokens) (h : Takes (t.number n) ts rest) → this_number n ts ≡ Some (h.0, rest)
unfolding this_number
this_number_reads n ts rest h = rw (h.1, eq-eqb n n refl) refl

pub opened_reads : (d : ℕ) (v : Symbol) (ts rest : Tokens) (h : Takes (t.symbol v) ts rest) → 1 ≤ d → opened d v ts ≡ Some (h.0, rest)
unfolding opened
opened_reads zero v ts rest h some = absurd (omega arith)
opened_reads (suc d) v ts rest h some = symbol_reads v ts rest h

pub named_reads : (line : ℕ) (x : List ℕ) (ts rest : Tokens) → At line (t.name x) ts rest → named ts ≡ Some ((line, x), rest)
unfolding named
named_reads line x ts rest h = rw h refl

pub name_reads : (x : List ℕ) (ts rest : Tokens) → Takes (t.name x) ts rest → name ts ≡ Some (x, rest)
unfolding name
name_reads x ts rest h = rw (named_reads h.0 x ts rest h.1) refl

pub numbered_reads : (line : ℕ) (x : ℕ) (ts rest : Tokens) → At line (t.number x) ts rest → numbered ts ≡ Some ((line, x), rest)
unfolding numbered
numbered_reads line x ts rest h = rw h refl

pub number_reads : (x : ℕ) (ts rest : Tokens) → Takes (t.number x) ts rest → number ts ≡ Some (x, rest)
unfolding number
number_reads x ts rest h = rw (numbered_reads h.0 x ts rest h.1) refl

pub logical_reads : (line : ℕ) (x : List Digit) (ts rest : Tokens) → At line (t.logic x) ts rest → logical ts ≡ Some ((line, x), rest)
unfolding logical
logical_reads line x ts rest h = rw h refl

pub symbol_sees : (v : Symbol) (ts rest : Tokens) → Takes (t.symbol v) ts rest → sees (is_the_symbol v) ts ≡ true
symbol_sees v ts rest h = rw (h.1, true_same the_symbol v v refl) refl

pub word_reads : (v : Word) (ts rest : Tokens) (h : Takes (t.word v) ts rest) → word v ts ≡ Some (h.0, rest)
unfolding word
word_reads v ts rest h = rw (h.1, true_same the_word v v refl) refl

pub word_sees : (v : Word) (ts rest : Tokens) → Takes (t.word v) ts rest → sees (is_the_word v) ts ≡ true
word_sees v ts rest h = rw (h.1, true_same the_word v v refl) refl

pub text_reads : (x : List ℕ) (ts rest : Tokens) → Takes (t.quoted x) ts rest → text ts ≡ Some (x, rest)
unfolding text
text_reads x ts rest h = rw h.1 refl

-- a flag that is not written is read where its word does not come
pub flag_reads : (v : Word) (b : Bool) (ts rest : Tokens) → Written (t.word v) b ts rest → (b ≡ false → sees (is_the_word v) rest ≡ false) → flag v ts ≡ Some (b, rest)
unfolding flag
flag_reads v true ts rest h f =
    let inner : true_behind v ts ≡ Some (true, rest) = rw (word_reads v ts rest h) refl in
    choose_first (sees (is_the_word v)) (true_behind v) (pure false) ts _ (word_sees v ts rest h) inner
flag_reads v false ts rest h f =
    choose_other (sees (is_the_word v)) (true_behind v) (pure false) ts _ (rw h (f refl)) (rw h refl)
