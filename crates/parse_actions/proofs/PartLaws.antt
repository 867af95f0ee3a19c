-- What the parser functions of words that come, and of names and expressions behind commas read.
use Rattle.std.proofs.Common.{◌≡◌, ℕ, ◌≤◌, true, List, [], ◌∷◌, Some, refl, ap}
use Rattle.model_tree.specs.declared.vocabulary.Word.{Word}
use Rattle.model_tree.specs.declared.vocabulary.Symbol.TheVariants as s
use Rattle.model_tree.specs.Tree as tree
use Rattle.model_tree.specs.Limits.{depth}
use Rattle.parse_expressions.specs.ModelLexer.Tokens as t
use Rattle.parse_expressions.specs.ModelLexer.Tokens.{Tokens}
use Rattle.parse_expressions.specs.ModelLexer.Rules.{At, Takes}
use Rattle.parse_expressions.specs.ModelLexer.Expressions.{DerivesExpression, is_the_symbol, sees}
use Rattle.parse_expressions.specs.ModelLexer.Statements.{NextName, NextExpression}
use Rattle.parse_expressions.specs.Parse.{skip, word_in, word_ahead, symbol, expression}
use Rattle.parse_expressions.proofs.Parsers.{and_then_ok}
use Rattle.parse_expressions.proofs.OneToken.{at_front, is_symbol_same, skip_some, symbol_ok, symbol_reads, name_ok, name_reads}
use Rattle.parse_expressions.proofs.Sound.{expression_ok}
use Rattle.parse_expressions.proofs.Complete.{expression_reads, over_at}
use Rattle.parse_actions.specs.Operations.{next_name, next_expression}

-- the word that comes

word_in_same : (y : t.Token) (v : Word) → word_in y ≡ Some v → y ≡ t.word v
word_in_same (t.name x) v h = cc
word_in_same (t.number x) v h = cc
word_in_same (t.logic x) v h = cc
word_in_same (t.quoted x) v h = cc
word_in_same (t.word u) v h = let e : u ≡ v = cc h in ap t.word e
word_in_same (t.symbol u) v h = cc

pub word_at : (v : Word) (line : ℕ) (ts rest : Tokens) → word_ahead ts ≡ Some v → skip ts ≡ Some (line, rest) → At line (t.word v) ts rest
unfolding skip
word_at v line [] rest h k = cc
word_at v line (y ∷ ts) rest h k = skip_some y ts rest line (t.word v) (word_in_same y.0 v h) k

pub word_comes : (v : Word) (line : ℕ) (ts rest : Tokens) → At line (t.word v) ts rest → word_ahead ts ≡ Some v
word_comes v line ts rest h = rw h refl

-- the semicolon that comes
pub semicolon_comes : (ts : Tokens) → sees (is_the_symbol s.Semicolon) ts ≡ true → (rest : Tokens) × Takes (t.symbol s.Semicolon) ts rest
semicolon_comes [] h = cc
semicolon_comes (y ∷ ts) h = (ts, (y.1, at_front y.0 (t.symbol s.Semicolon) y.1 ts (is_symbol_same s.Semicolon y.0 h)))

-- names and expressions behind commas

pub next_name_ok : (ts rest : Tokens) (x : List ℕ) → next_name ts ≡ Some (x, rest) → NextName x ts rest
unfolding next_name
next_name_ok ts rest x h =
    let (comma, a, one, h1) = and_then_ok (symbol s.Comma ts) _ (x, rest) h in
    (a, symbol_ok s.Comma ts a comma one, name_ok a rest x h1)

pub next_name_reads : (x : List ℕ) (ts rest : Tokens) → NextName x ts rest → next_name ts ≡ Some (x, rest)
unfolding next_name
next_name_reads x ts rest (a, one, two) = rw (symbol_reads s.Comma ts a one) (name_reads x a rest two)

pub next_expression_ok : (d : ℕ) (ts rest : Tokens) (e : tree.Expression) → next_expression d ts ≡ Some (e, rest) → NextExpression e ts rest × (depth e ≤ d)
unfolding next_expression
next_expression_ok d ts rest e h =
    let (comma, a, one, h1) = and_then_ok (symbol s.Comma ts) _ (e, rest) h in
    let inner = expression_ok d a rest e h1 in
    ((a, symbol_ok s.Comma ts a comma one, inner.0), inner.1)

-- an expression before a semicolon or a comma

pub expression_before : (d : ℕ) (e : tree.Expression) (ts rest last : Tokens) → DerivesExpression e ts rest → depth e ≤ d → Takes (t.symbol s.Semicolon) rest last → expression d ts ≡ Some (e, rest)
expression_before d e ts rest last h few end = expression_reads d e ts rest (h, few, over_at _ e rest last refl refl refl refl end)

pub next_expression_before : (d : ℕ) (e : tree.Expression) (ts rest last : Tokens) → NextExpression e ts rest → depth e ≤ d → Takes (t.symbol s.Semicolon) rest last → next_expression d ts ≡ Some (e, rest)
unfolding next_expression
next_expression_before d e ts rest last (a, one, two) few end = rw (symbol_reads s.Comma ts a one) (expression_before d e a rest last two few end)

pub next_expression_between : (d : ℕ) (e : tree.Expression) (ts rest last : Tokens) → NextExpression e ts rest → depth e ≤ d → Takes (t.symbol s.Comma) rest last → next_expression d ts ≡ Some (e, rest)
unfolding next_expression
next_expression_between d e ts rest last (a, one, two) few end =
    rw (symbol_reads s.Comma ts a one) (expression_reads d e a rest (two, few, over_at _ e rest last refl refl refl refl end))
