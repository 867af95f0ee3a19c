-- What the parser functions of arguments and of optional parts read is derived, and what is derived is read.
use Rattle.std.proofs.Common.{◌≡◌, ℕ, suc, ◌<◌, ◌≤◌, true, false, List, [], ◌∷◌, length, Option, Some, None, refl, sym, subst, arith}
use Rattle.model_tree.specs.declared.vocabulary.Symbol.TheVariants as s
use Rattle.model_tree.specs.Limits.{depth}
use Rattle.model_tree.specs.Tree as tree
use Rattle.parse_expressions.specs.ModelLexer.Tokens as t
use Rattle.parse_expressions.specs.ModelLexer.Tokens.{Tokens}
use Rattle.parse_expressions.specs.ModelLexer.Rules.{Rule, Takes, Each, Separated, Maybe}
use Rattle.parse_expressions.specs.ModelLexer.Expressions.{DerivesExpression, IsOver, is_the_symbol, sees}
use Rattle.parse_expressions.specs.ModelLexer.Statements.{DerivesArguments, DerivesIndex, NextExpression}
use Rattle.parse_expressions.specs.ModelLexer.Brackets.{in_all, in_index, in_option}
use Rattle.parse_expressions.specs.Parse.{pure, symbol, opened, inside, expression}
use Rattle.parse_expressions.proofs.Parsers.{choose_cases, choose_first, and_then_ok, made}
use Rattle.parse_expressions.proofs.OneToken.{symbol_ok, opened_ok, symbol_reads, opened_reads, symbol_sees, at_front, is_symbol_same}
use Rattle.parse_expressions.proofs.Many.{Every, many_ok, many_reads}
use Rattle.parse_expressions.proofs.Sound.{inside_ok, expression_ok}
use Rattle.parse_expressions.proofs.ModelLexer.SoundExpressions.{takes_one, counted}
use Rattle.parse_expressions.proofs.Complete.{inside_reads, expression_reads, over_at, right_paren_begins_none, semicolon_begins_none}
use Rattle.parse_actions.specs.ChannelParse.{next_inside, at_no_comma, more_inside, some_inside, at_right_paren, listed, arguments, some_index, optional_index, at_semicolon, some_expression, optional_expression}

-- no more brackets than that are open in it and around it
abbrev Few : ℕ → tree.Expression → Type 0
Few d e = suc (depth e) ≤ d

next_ok : (d : ℕ) (ts rest : Tokens) (e : tree.Expression) → next_inside d ts ≡ Some (e, rest) → NextExpression e ts rest × Few d e
unfolding next_inside
next_ok d ts rest e h =
    let (comma, a, one, h1) = and_then_ok (symbol s.Comma ts) _ (e, rest) h in
    let (g, few) = inside_ok d a rest e h1 in
    ((a, symbol_ok s.Comma ts a comma one, g), few)

-- every expression is over here
abbrev Ends : Tokens → Type 0
Ends ts = (e : tree.Expression) → IsOver e ts

next_reads : (d : ℕ) (e : tree.Expression) (ts rest : Tokens) → NextExpression e ts rest → Few d e → Ends rest → next_inside d ts ≡ Some (e, rest)
unfolding next_inside
next_reads d e ts rest (a, one, two) few ends = rw (symbol_reads s.Comma ts a one) (inside_reads d e a rest two few (ends e))

next_begins : (e : tree.Expression) (ts rest : Tokens) → NextExpression e ts rest → (at_no_comma ts ≡ false) × Ends ts
next_begins e ts rest (a, one, two) = (rw one.1 refl, λ x. over_at _ x ts a refl refl refl refl one)

next_shorter : (e : tree.Expression) (ts rest : Tokens) → NextExpression e ts rest → length rest < length ts
next_shorter e ts rest (a, one, two) = omega (arith, takes_one _ ts a one, counted e 0 a rest two.0)

all_few : (d : ℕ) (e : tree.Expression) (es : List tree.Expression) → Few d e → Every (Few d) es → suc (in_all (e ∷ es)) ≤ d
all_few d e [] h k = omega (arith, h)
all_few d e (x ∷ xs) h k = omega (arith, h, all_few d x xs k.0 k.1)

each_few : (d : ℕ) (es : List tree.Expression) → suc (in_all es) ≤ d → Every (Few d) es
each_few d [] h = tt
each_few d (e ∷ es) h = (omega (arith, h), each_few d es (omega (arith, h)))

some_inside_ok : (d : ℕ) (ts rest : Tokens) (es : List tree.Expression) → some_inside d ts ≡ Some (es, rest) → Separated (t.symbol s.Comma) DerivesExpression es ts rest × (suc (in_all es) ≤ d)
unfolding more_inside
some_inside_ok d ts rest es h =
    let (e, a, one, h1) = and_then_ok (inside d ts) _ (es, rest) h in
    let (g, few) = inside_ok d ts a e one in
    let (ys, whole, each, every, stop) = many_ok at_no_comma (next_inside d) NextExpression (Few d) (next_ok d) (e ∷ []) es a rest h1 in
    subst (λ z. Separated (t.symbol s.Comma) DerivesExpression z ts rest × (suc (in_all z) ≤ d)) (sym whole) ((a, g, each), all_few d e ys few every)

next_or_end : (es : List tree.Expression) (ts rest : Tokens) → Each NextExpression es ts rest → Ends rest → Ends ts
next_or_end [] ts rest h ends = subst Ends (sym h) ends
next_or_end (e ∷ es) ts rest (a, one, more) ends = (next_begins e ts a one).1

some_inside_reads : (d : ℕ) (es : List tree.Expression) (ts rest : Tokens) → Separated (t.symbol s.Comma) DerivesExpression es ts rest → suc (in_all es) ≤ d → sees (is_the_symbol s.Comma) rest ≡ false → Ends rest → some_inside d ts ≡ Some (es, rest)
unfolding more_inside
some_inside_reads d [] ts rest h few none ends = absurd h
some_inside_reads d (e ∷ es) ts rest (a, one, more) few none ends =
    rw (inside_reads d e ts a one (omega (arith, few)) (next_or_end es a rest more ends e))
    (many_reads at_no_comma (next_inside d) NextExpression (Few d) Ends (next_reads d) next_begins next_shorter es (e ∷ []) a rest more (each_few d es (omega (arith, few))) (rw none refl) ends)

-- arguments

-- what stands between the parentheses
abbrev Listed : List tree.Expression → Rule
Listed [] ts rest = ts ≡ rest
Listed (e ∷ es) ts rest = Separated (t.symbol s.Comma) DerivesExpression (e ∷ es) ts rest

listed_some : (es : List tree.Expression) (ts rest : Tokens) → Separated (t.symbol s.Comma) DerivesExpression es ts rest → Listed es ts rest
listed_some [] ts rest h = absurd h
listed_some (e ∷ es) ts rest h = h

listed_ok : (d : ℕ) (ts rest : Tokens) (es : List tree.Expression) → 1 ≤ d → listed d ts ≡ Some (es, rest) → Listed es ts rest × (suc (in_all es) ≤ d)
unfolding listed
listed_ok d ts rest es some h =
    choose_cases at_right_paren (pure []) (some_inside d) ts (es, rest) h
    (λ is h. made (λ z r. Listed z ts r × (suc (in_all z) ≤ d)) h (refl, some))
    (λ is h. let (g, few) = some_inside_ok d ts rest es h in (listed_some es ts rest g, few))

in_parens : (es : List tree.Expression) (ts a b rest : Tokens) → Takes (t.symbol s.LeftParen) ts a → Listed es a b → Takes (t.symbol s.RightParen) b rest → DerivesArguments es ts rest
in_parens [] ts a b rest one two three = (a, one, subst (λ z. Takes (t.symbol s.RightParen) z rest) (sym two) three)
in_parens (e ∷ es) ts a b rest one two three = (a, one, (b, two, three))

pub arguments_ok : (d : ℕ) (ts rest : Tokens) (es : List tree.Expression) → arguments d ts ≡ Some (es, rest) → DerivesArguments es ts rest × (suc (in_all es) ≤ d)
unfolding arguments
arguments_ok d ts rest es h =
    let (paren, a, one, h1) = and_then_ok (opened d s.LeftParen ts) _ (es, rest) h in
    let (xs, b, two, h2) = and_then_ok (listed d a) _ (es, rest) h1 in
    let (close, c, three, h3) = and_then_ok (symbol s.RightParen b) _ (es, rest) h2 in
    let (open_at, some) = opened_ok d s.LeftParen ts a paren one in
    let (g, few) = listed_ok d a b xs some two in
    made (λ z r. DerivesArguments z ts r × (suc (in_all z) ≤ d)) h3 (in_parens xs ts a b c (paren, open_at) g (symbol_ok s.RightParen b c close three), few)

closes : (ts rest : Tokens) → Takes (t.symbol s.RightParen) ts rest → Ends ts
closes ts rest h e = over_at _ e ts rest refl refl refl refl h

pub arguments_reads : (d : ℕ) (es : List tree.Expression) (ts rest : Tokens) → DerivesArguments es ts rest → suc (in_all es) ≤ d → arguments d ts ≡ Some (es, rest)
unfolding arguments listed
arguments_reads d [] ts rest (a, one, two) few =
    rw (opened_reads d s.LeftParen ts a one few, symbol_sees s.RightParen a rest two, symbol_reads s.RightParen a rest two) refl
arguments_reads d (e ∷ es) ts rest (a, one, (b, (c, two, more), three)) few =
    rw (opened_reads d s.LeftParen ts a one (omega (arith, few)), right_paren_begins_none e 0 a c two.0, some_inside_reads d (e ∷ es) a b (c, two, more) few (rw three.1 refl) (closes b rest three), symbol_reads s.RightParen b rest three) refl

-- an expression between square brackets, if one comes

pub optional_index_ok : (d : ℕ) (ts rest : Tokens) (o : Option tree.Expression) → optional_index d ts ≡ Some (o, rest) → Maybe DerivesIndex o ts rest × (in_index o ≤ d)
unfolding optional_index
optional_index_ok d ts rest o h =
    choose_cases (sees (is_the_symbol s.LeftBracket)) (some_index d) (pure None) ts (o, rest) h
    (λ is h.
    let (bracket, a, one, h1) = and_then_ok (opened d s.LeftBracket ts) _ (o, rest) h in
    let (e, b, two, h2) = and_then_ok (inside d a) _ (o, rest) h1 in
    let (close, c, three, h3) = and_then_ok (symbol s.RightBracket b) _ (o, rest) h2 in
    let (g, few) = inside_ok d a b e two in
    made (λ z r. Maybe DerivesIndex z ts r × (in_index z ≤ d)) h3 ((a, (bracket, (opened_ok d s.LeftBracket ts a bracket one).0), (b, g, symbol_ok s.RightBracket b c close three)), few))
    (λ is h. made (λ z r. Maybe DerivesIndex z ts r × (in_index z ≤ d)) h (refl, omega arith))

pub optional_index_reads : (d : ℕ) (o : Option tree.Expression) (ts rest : Tokens) → Maybe DerivesIndex o ts rest → in_index o ≤ d → sees (is_the_symbol s.LeftBracket) rest ≡ false → optional_index d ts ≡ Some (o, rest)
unfolding optional_index
optional_index_reads d None ts rest h few free = rw (h, free) refl
optional_index_reads d (Some e) ts rest (a, one, (b, two, three)) few free =
    choose_first (sees (is_the_symbol s.LeftBracket)) (some_index d) (pure None) ts _ (symbol_sees s.LeftBracket ts a one)
    (rw (opened_reads d s.LeftBracket ts a one (omega (arith, few)), inside_reads d e a b two few (over_at _ e b rest refl refl refl refl three), symbol_reads s.RightBracket b rest three) refl)

-- an expression, or none before a semicolon

pub optional_expression_ok : (d : ℕ) (ts rest : Tokens) (o : Option tree.Expression) → optional_expression d ts ≡ Some (o, rest) → Maybe DerivesExpression o ts rest × (in_option o ≤ d)
unfolding optional_expression
optional_expression_ok d ts rest o h =
    choose_cases at_semicolon (pure None) (some_expression d) ts (o, rest) h
    (λ is h. made (λ z r. Maybe DerivesExpression z ts r × (in_option z ≤ d)) h (refl, omega arith))
    (λ is h.
    let (e, a, one, h1) = and_then_ok (expression d ts) _ (o, rest) h in
    let (g, few, over) = expression_ok d ts a e one in
    made (λ z r. Maybe DerivesExpression z ts r × (in_option z ≤ d)) h1 (g, few))

-- a semicolon goes on with no expression
semicolon_ends : (e : tree.Expression) (ts : Tokens) → sees (is_the_symbol s.Semicolon) ts ≡ true → IsOver e ts
semicolon_ends e [] h = cc
semicolon_ends e (x ∷ ts) h = over_at (t.symbol s.Semicolon) e (x ∷ ts) ts refl refl refl refl (x.1, at_front x.0 (t.symbol s.Semicolon) x.1 ts (is_symbol_same s.Semicolon x.0 h))

pub optional_expression_reads : (d : ℕ) (o : Option tree.Expression) (ts rest : Tokens) → Maybe DerivesExpression o ts rest → in_option o ≤ d → sees (is_the_symbol s.Semicolon) rest ≡ true → optional_expression d ts ≡ Some (o, rest)
unfolding optional_expression
optional_expression_reads d None ts rest h few ends = rw (h, ends) refl
optional_expression_reads d (Some e) ts rest h few ends =
    rw (semicolon_begins_none e 0 ts rest h.0, expression_reads d e ts rest (h, few, semicolon_ends e rest ends)) refl
