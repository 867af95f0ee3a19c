-- The laws of functions and processes, both ways.
use Rattle.std.proofs.Common.{◌≡◌, ℕ, suc, ◌<◌, ◌≤◌, max, Bool, true, false, List, [], ◌∷◌, length, Option, Some, None, refl, sym, subst, arith}
use Rattle.model_tree.specs.declared.vocabulary.Word.TheVariants as w
use Rattle.model_tree.specs.declared.vocabulary.Symbol.TheVariants as s
use Rattle.model_tree.specs.declared.types.VarType.{VarType}
use Rattle.model_tree.specs.declared.types.VarType.TheVariants as var_type
use Rattle.model_tree.specs.declared.types.Parameter.{Parameter}
use Rattle.model_tree.specs.declared.items.ProcessKind.{ProcessKind}
use Rattle.model_tree.specs.Tree as tree
use Rattle.parse_statements.specs.ModelLexer.Tokens as t
use Rattle.parse_statements.specs.ModelLexer.Tokens.{Tokens}
use Rattle.parse_statements.specs.ModelLexer.Rules.{Rule, ◌⨾◌, Takes, Maybe, Written}
use Rattle.parse_statements.specs.ModelLexer.Expressions.{is_the_symbol, sees}
use Rattle.parse_statements.specs.ModelLexer.Statements.{DerivesVarTypeAt}
use Rattle.parse_statements.specs.ModelLexer.Items.{DerivesMode, DerivesParameter, DerivesParameters, DerivesAnswer, DerivesItem}
use Rattle.model_tree.specs.Spelling.{process_word}
use Rattle.parse_statements.specs.ModelLexer.Brackets.{in_block, in_events}
use Rattle.parse_statements.specs.ParseExpressions.Parse.{pure, word, is_the_word, flag, symbol, name, opened}
use Rattle.parse_statements.proofs.ParseExpressions.Parsers.{and_then_ok, choose_cases, choose_first, choose_other, made}
use Rattle.parse_statements.proofs.ParseExpressions.OneToken.{symbol_ok, symbol_reads, symbol_sees, opened_ok, opened_reads, name_ok, name_reads, this_word_at, word_reads, word_sees, flag_ok, flag_reads}
use Rattle.parse_statements.proofs.ModelLexer.Shrinks.{first, takes_shortens, parameter_shrinks}
use Rattle.parse_statements.proofs.ParseExpressions.Many.{Every, many_ok, many_reads}
use Rattle.parse_statements.specs.ParseActions.ChannelParse.{variable_type, sensitive, at_no_comma, at_right_paren}
use Rattle.parse_statements.proofs.ParseActions.TypeLaws.{variable_type_ok, variable_type_reads, form_begins_not}
use Rattle.parse_statements.proofs.ParseActions.ChannelLaws.{EventsEnd, sensitive_ok, sensitive_reads}
use Rattle.parse_statements.specs.Parse.{block}
use Rattle.parse_statements.proofs.BlockLaws.{block_ok, block_reads}
use Rattle.model_parser.specs.Bodies.{inout_parameter, value_parameter, parameter, next_parameter, more_parameters, some_parameters, listed_parameters, parameters, some_answer, answer, function_item, process_item}
use Rattle.model_parser.proofs.PlainItemLaws.{Within}

-- parameters

inout_ok : (ts rest : Tokens) (p : Parameter) → inout_parameter ts ≡ Some (p, rest) → DerivesParameter p ts rest
unfolding inout_parameter
inout_ok ts rest p h =
    let (line, a, one, h1) = and_then_ok (word w.Inout ts) _ (p, rest) h in
    let (x, b, two, h2) = and_then_ok (variable_type a) _ (p, rest) h1 in
    let (bytes, c, three, h3) = and_then_ok (name b) _ (p, rest) h2 in
    made (λ p c. DerivesParameter p ts c) h3 (b, (a, this_word_at w.Inout ts a line one, (x.0, variable_type_ok a b x two)), name_ok b c bytes three)

value_ok : (ts rest : Tokens) (p : Parameter) → value_parameter ts ≡ Some (p, rest) → DerivesParameter p ts rest
unfolding value_parameter
value_ok ts rest p h =
    let (x, a, one, h1) = and_then_ok (variable_type ts) _ (p, rest) h in
    let (bytes, b, two, h2) = and_then_ok (name a) _ (p, rest) h1 in
    made (λ p b. DerivesParameter p ts b) h2 (a, variable_type_ok ts a x one, name_ok a b bytes two)

parameter_ok : (ts rest : Tokens) (p : Parameter) → parameter ts ≡ Some (p, rest) → DerivesParameter p ts rest
unfolding parameter
parameter_ok ts rest p h =
    choose_cases (sees (is_the_word w.Inout)) inout_parameter value_parameter ts (p, rest) h
    (λ is h. inout_ok ts rest p h)
    (λ is h. value_ok ts rest p h)

-- a type of variables begins neither with `inout` nor with a closing parenthesis

type_begins : (line : ℕ) (x : VarType) (ts rest : Tokens) → DerivesVarTypeAt line x ts rest → (sees (is_the_word w.Inout) ts ≡ false) × (at_right_paren ts ≡ false)
type_begins line (var_type.Plain x) ts rest (same, h) =
    (form_begins_not (is_the_word w.Inout) (refl, refl, refl, refl, refl) x.line x.form ts rest h, form_begins_not (is_the_symbol s.RightParen) (refl, refl, refl, refl, refl) x.line x.form ts rest h)
type_begins line var_type.Time ts rest h = (rw h refl, rw h refl)
type_begins line var_type.Process ts rest h = (rw h refl, rw h refl)
type_begins line var_type.Payload ts rest h = (rw h refl, rw h refl)

mode_reads : (inout : Bool) (line : ℕ) (x : VarType) (bytes : List ℕ) (ts a rest : Tokens) → DerivesMode inout line x ts a → Takes (t.name bytes) a rest → parameter ts ≡ Some (record { line = line; inout = inout; var_type = x; name = bytes }, rest)
unfolding parameter inout_parameter value_parameter
mode_reads true line x bytes ts a rest (b, one, two) three =
    let read : inout_parameter ts ≡ Some (record { line = line; inout = true; var_type = x; name = bytes }, rest) = rw (word_reads w.Inout ts b (line, one), variable_type_reads two.0 x b a two.1, name_reads bytes a rest three) refl in
    choose_first (sees (is_the_word w.Inout)) inout_parameter value_parameter ts _ (word_sees w.Inout ts b (line, one)) read
mode_reads false line x bytes ts a rest h three =
    let read : value_parameter ts ≡ Some (record { line = line; inout = false; var_type = x; name = bytes }, rest) = rw (variable_type_reads line x ts a h, name_reads bytes a rest three) refl in
    choose_other (sees (is_the_word w.Inout)) inout_parameter value_parameter ts _ (type_begins line x ts a h).0 read

parameter_reads : (p : Parameter) (ts rest : Tokens) → DerivesParameter p ts rest → parameter ts ≡ Some (p, rest)
parameter_reads p ts rest (a, one, two) = mode_reads p.inout p.line p.var_type p.name ts a rest one two

mode_begins : (inout : Bool) (line : ℕ) (x : VarType) (ts rest : Tokens) → DerivesMode inout line x ts rest → at_right_paren ts ≡ false
mode_begins true line x ts rest (a, one, two) = rw one refl
mode_begins false line x ts rest h = (type_begins line x ts rest h).1

-- a parameter behind a comma
abbrev Next : Parameter → Rule
Next p = Takes (t.symbol s.Comma) ⨾ DerivesParameter p

abbrev Any : Parameter → Type 0
Any p = Unit {0}

next_ok : (ts rest : Tokens) (p : Parameter) → next_parameter ts ≡ Some (p, rest) → Next p ts rest × Any p
unfolding next_parameter
next_ok ts rest p h =
    let (line, a, one, h1) = and_then_ok (symbol s.Comma ts) _ (p, rest) h in
    ((a, symbol_ok s.Comma ts a line one, parameter_ok a rest p h1), tt)

next_reads : (p : Parameter) (ts rest : Tokens) → Next p ts rest → Any p → Unit {0} → next_parameter ts ≡ Some (p, rest)
unfolding next_parameter
next_reads p ts rest (a, one, two) any follow = rw (symbol_reads s.Comma ts a one) (parameter_reads p a rest two)

next_begins : (p : Parameter) (ts rest : Tokens) → Next p ts rest → (at_no_comma ts ≡ false) × Unit {0}
next_begins p ts rest (a, one, two) = (rw one.1 refl, tt)

next_shorter : (p : Parameter) (ts rest : Tokens) → Next p ts rest → length rest < length ts
next_shorter p ts rest h = (first (takes_shortens (t.symbol s.Comma)) (parameter_shrinks p)).leaves ts rest h

every : (ps : List Parameter) → Every Any ps
every [] = tt
every (p ∷ ps) = (tt, every ps)

parameters_ok : (d : ℕ) (ts rest : Tokens) (ps : List Parameter) → parameters d ts ≡ Some (ps, rest) → DerivesParameters ps ts rest
unfolding parameters listed_parameters more_parameters
parameters_ok d ts rest ps h =
    let (left, a, one, h1) = and_then_ok (opened d s.LeftParen ts) _ (ps, rest) h in
    let (qs, b, two, h2) = and_then_ok (listed_parameters a) _ (ps, rest) h1 in
    let (right, c, three, h3) = and_then_ok (symbol s.RightParen b) _ (ps, rest) h2 in
    let paren : Takes (t.symbol s.LeftParen) ts a = (left, (opened_ok d s.LeftParen ts a left one).0) in
    let close = symbol_ok s.RightParen b c right three in
    made (λ ps c. DerivesParameters ps ts c) h3
    (choose_cases at_right_paren (pure []) some_parameters a (qs, b) two
    (λ is h.
    let e : ◌≡◌ {A = List Parameter × Tokens} ([], a) (qs, b) = cc h in
    subst (λ (z : List Parameter × Tokens). Takes (t.symbol s.RightParen) z.1 c → DerivesParameters z.0 ts c) e (λ end. (a, paren, end)) close)
    (λ is h.
    let (p, e, four, h4) = and_then_ok (parameter a) _ (qs, b) h in
    let (ys, whole, each, all, stop) = many_ok at_no_comma next_parameter Next Any next_ok (p ∷ []) qs e b h4 in
    subst (λ z. DerivesParameters z ts c) (sym whole) (a, paren, (b, (e, parameter_ok a e p four, each), close))))

parameters_reads : (d : ℕ) (ps : List Parameter) (ts rest : Tokens) → DerivesParameters ps ts rest → 1 ≤ d → parameters d ts ≡ Some (ps, rest)
unfolding parameters listed_parameters more_parameters
parameters_reads d [] ts rest (a, one, two) few =
    let read : listed_parameters a ≡ Some ([], a) = rw two.1 refl in
    rw (opened_reads d s.LeftParen ts a one few, read, symbol_reads s.RightParen a rest two) refl
parameters_reads d (p ∷ ps) ts rest (a, one, (b, (c, two, three), four)) few =
    let more = many_reads at_no_comma next_parameter Next Any (λ ts. Unit {0}) next_reads next_begins next_shorter ps (p ∷ []) c b three (every ps) (rw four.1 refl) tt in
    let some : some_parameters a ≡ Some (p ∷ ps, b) = rw (parameter_reads p a c two) more in
    let read : listed_parameters a ≡ Some (p ∷ ps, b) = choose_other at_right_paren (pure []) some_parameters a _ (mode_begins p.inout p.line p.var_type a two.0 two.1) some in
    rw (opened_reads d s.LeftParen ts a one few, read, symbol_reads s.RightParen b rest four) refl

-- functions

answer_ok : (ts rest : Tokens) (o : Option VarType) → answer ts ≡ Some (o, rest) → Maybe DerivesAnswer o ts rest
unfolding answer
answer_ok ts rest o h =
    choose_cases (sees (is_the_symbol s.Arrow)) some_answer (pure None) ts (o, rest) h
    (λ is h.
    let (line, a, one, h1) = and_then_ok (symbol s.Arrow ts) _ (o, rest) h in
    let (x, b, two, h2) = and_then_ok (variable_type a) _ (o, rest) h1 in
    made (λ o b. Maybe DerivesAnswer o ts b) h2 (a, symbol_ok s.Arrow ts a line one, (x.0, variable_type_ok a b x two)))
    (λ is h. made (λ o b. Maybe DerivesAnswer o ts b) h refl)

answer_reads : (o : Option VarType) (ts rest : Tokens) → Maybe DerivesAnswer o ts rest → sees (is_the_symbol s.Arrow) rest ≡ false → answer ts ≡ Some (o, rest)
unfolding answer
answer_reads None ts rest h free = choose_other (sees (is_the_symbol s.Arrow)) some_answer (pure None) ts _ (rw h free) (rw h refl)
answer_reads (Some x) ts rest (a, one, two) free =
    let read : some_answer ts ≡ Some (Some x, rest) = rw (symbol_reads s.Arrow ts a one, variable_type_reads two.0 x a rest two.1) refl in
    choose_first (sees (is_the_symbol s.Arrow)) some_answer (pure None) ts _ (symbol_sees s.Arrow ts a one) read

pub function_item_ok : (d : ℕ) (ts rest : Tokens) (x : tree.Item) → function_item d ts ≡ Some (x, rest) → Within d ts x rest
unfolding function_item
function_item_ok d ts rest x h =
    let (line, a, one, h1) = and_then_ok (word w.Func ts) _ (x, rest) h in
    let (bytes, b, two, h2) = and_then_ok (name a) _ (x, rest) h1 in
    let (ps, c, three, h3) = and_then_ok (parameters d b) _ (x, rest) h2 in
    let (of, e, four, h4) = and_then_ok (answer c) _ (x, rest) h3 in
    let (body, f, five, h5) = and_then_ok (block d e) _ (x, rest) h4 in
    let inside = block_ok d e f body five in
    made (Within d ts) h5 ((a, this_word_at w.Func ts a line one, (b, name_ok a b bytes two, (c, parameters_ok d b c ps three, (e, answer_ok c e of four, inside.0)))), inside.1)

pub function_item_reads : (d : ℕ) (line : ℕ) (f : tree.FunctionItem) (ts rest : Tokens) → suc (in_block f.body) ≤ d → DerivesItem (tree.function line f) ts rest → function_item d ts ≡ Some (tree.function line f, rest)
unfolding function_item
function_item_reads d line f ts rest few (a, one, (b, two, (c, three, (e, four, five)))) =
    rw (word_reads w.Func ts a (line, one), name_reads f.name a b two, parameters_reads d f.parameters b c three (omega (arith, few)), answer_reads f.answer c e four (rw five.1.1 refl), block_reads d f.body e rest five few) refl

-- processes

pub process_item_ok : (k : ProcessKind) (d : ℕ) (ts rest : Tokens) (x : tree.Item) → process_item k d ts ≡ Some (x, rest) → Within d ts x rest
unfolding process_item
process_item_ok k d ts rest x h =
    let (line, a, one, h1) = and_then_ok (word (process_word k) ts) _ (x, rest) h in
    let (bytes, b, two, h2) = and_then_ok (name a) _ (x, rest) h1 in
    let (es, c, three, h3) = and_then_ok (sensitive d b) _ (x, rest) h2 in
    let (without, e, four, h4) = and_then_ok (flag w.DontInitialize c) _ (x, rest) h3 in
    let (body, f, five, h5) = and_then_ok (block d e) _ (x, rest) h4 in
    let events_at = sensitive_ok d b c es three in
    let inside = block_ok d e f body five in
    let few : max (in_events es) (suc (in_block body)) ≤ d = omega (arith, events_at.1, inside.1) in
    made (Within d ts) h5 ((a, this_word_at (process_word k) ts a line one, (b, name_ok a b bytes two, (c, events_at.0, (e, flag_ok w.DontInitialize c e without four, inside.0)))), few)

-- what stands before a block goes on with no sensitivity
before_block : (b : Bool) (ts mid rest : Tokens) → Written (t.word w.DontInitialize) b ts mid → Takes (t.symbol s.LeftBrace) mid rest → (sees (is_the_word w.Sensitive) ts ≡ false) × EventsEnd ts
before_block true ts mid rest h k = (rw h.1 refl, (rw h.1 refl, (rw h.1 refl, rw h.1 refl)))
before_block false ts mid rest h k = (rw (h, k.1) refl, (rw (h, k.1) refl, (rw (h, k.1) refl, rw (h, k.1) refl)))

pub process_item_reads : (k : ProcessKind) (d : ℕ) (line : ℕ) (p : tree.ProcessItem) (ts rest : Tokens) → p.kind ≡ k → max (in_events p.sensitive) (suc (in_block p.body)) ≤ d → DerivesItem (tree.process line p) ts rest → process_item k d ts ≡ Some (tree.process line p, rest)
unfolding process_item
process_item_reads k d line p ts rest same few (a, one, (b, two, (c, three, (e, four, five)))) =
    let before = before_block p.dont_initialize c e five.0 four five.1 in
    let read = word_reads (process_word p.kind) ts a (line, one) in
    rw (sym same) (rw (read, name_reads p.name a b two, sensitive_reads d p.sensitive b c three (omega (arith, few)) before.0 before.1, flag_reads w.DontInitialize p.dont_initialize c e four (λ none. rw five.1.1 refl), block_reads d p.body e rest five (omega (arith, few))) refl)
