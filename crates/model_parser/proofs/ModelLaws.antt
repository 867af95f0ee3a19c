-- What the parser functions of modules and whole texts read is derived, and what is derived is read.
use Rattle.std.proofs.Common.{◌≡◌, ℕ, suc, ◌≤◌, true, false, List, [], ◌∷◌, Option, Some, None, refl, sym, ◌∙◌, ap, subst, arith}
use Rattle.std.proofs.lemmas.Option.{same_Some}
use Rattle.model_tree.specs.declared.vocabulary.Word.TheVariants as w
use Rattle.model_tree.specs.declared.vocabulary.Symbol.TheVariants as s
use Rattle.model_tree.specs.declared.vocabulary.Word.{Word}
use Rattle.model_tree.specs.declared.items.ResolutionLine.{ResolutionLine}
use Rattle.model_tree.specs.declared.items.Head.{Head}
use Rattle.model_tree.specs.declared.items.Head.TheVariants as head
use Rattle.model_tree.specs.declared.items.Top.{Top}
use Rattle.model_tree.specs.Tree as tree
use Rattle.parse_statements.specs.ModelLexer.Languages.{in_language}
use Rattle.parse_statements.specs.ModelLexer.Expressions.{sees}
use Rattle.parse_statements.specs.ModelLexer.Tokens as t
use Rattle.parse_statements.specs.ModelLexer.Tokens.{Tokens}
use Rattle.parse_statements.specs.ModelLexer.Rules.{Each, Maybe}
use Rattle.parse_statements.specs.ModelLexer.Items.{DerivesModule, DerivesTop, DerivesModel, DerivesResolution, DerivesHead, DerivesSource}
use Rattle.parse_statements.specs.ModelLexer.Brackets.{in_items, in_modules}
use Rattle.parse_statements.proofs.ModelLexer.Shrinks.{module_shortens}
use Rattle.parse_statements.specs.ModelLexer.Laws.{with_lines}
use Rattle.parse_statements.proofs.ModelLexer.Cuts.{one_cut_from}
use Rattle.parse_statements.specs.ParseExpressions.Parse.{pure, word, is_the_word, symbol, name, this_number}
use Rattle.parse_statements.proofs.ParseExpressions.Parsers.{choose_cases, choose_first, choose_other, and_then_ok, made}
use Rattle.parse_statements.proofs.ParseExpressions.OneToken.{this_number_ok, this_number_reads, word_ok, word_sees, symbol_ok, symbol_reads, symbol_sees, name_ok, name_reads, this_word_at, word_reads}
use Rattle.parse_statements.proofs.ParseExpressions.Many.{Every, many_ok, many_reads}
use Rattle.model_parser.specs.ItemParse.{time_span}
use Rattle.model_parser.specs.Bodies.{items}
use Rattle.model_parser.proofs.ValueLaws.{time_span_ok, time_span_reads}
use Rattle.model_parser.proofs.ItemLaws.{items_ok, items_reads}
use Rattle.parse_statements.specs.ModelLexer.Reads.{Reads}
use Rattle.model_parser.specs.Parse.{module_text, at_no_module, modules, top, model, some_resolution, resolution, second_head, head_text, source, whole, from_tokens, IsFound}

-- a module, in which at most so many brackets are open between its braces
abbrev Few : ℕ → tree.Module → Type 0
Few d m = in_items m.items ≤ d

module_ok : (d : ℕ) (ts rest : Tokens) (m : tree.Module) → module_text d ts ≡ Some (m, rest) → DerivesModule m ts rest × Few d m
unfolding module_text
module_ok d ts rest m h =
    let (line, a, one, h1) = and_then_ok (word w.Module ts) _ (m, rest) h in
    let (bytes, b, two, h2) = and_then_ok (name a) _ (m, rest) h1 in
    let (left, c, three, h3) = and_then_ok (symbol s.LeftBrace b) _ (m, rest) h2 in
    let (xs, e, four, h4) = and_then_ok (items d c) _ (m, rest) h3 in
    let (right, f, five, h5) = and_then_ok (symbol s.RightBrace e) _ (m, rest) h4 in
    let inside = items_ok d c e xs four in
    made (λ m f. DerivesModule m ts f × Few d m) h5 ((a, this_word_at w.Module ts a line one, (b, name_ok a b bytes two, (c, symbol_ok s.LeftBrace b c left three, (e, inside.0, symbol_ok s.RightBrace e f right five)))), inside.1)

module_reads : (d : ℕ) (m : tree.Module) (ts rest : Tokens) → DerivesModule m ts rest → Few d m → module_text d ts ≡ Some (m, rest)
unfolding module_text
module_reads d m ts rest (a, one, (b, two, (c, three, (e, four, five)))) few =
    rw (word_reads w.Module ts a (m.line, one), name_reads m.name a b two, symbol_reads s.LeftBrace b c three, items_reads d m.items c e four few (symbol_sees s.RightBrace e rest five), symbol_reads s.RightBrace e rest five) refl

all_few : (d : ℕ) (ms : List tree.Module) → Every (Few d) ms → in_modules ms ≤ suc d
all_few d [] h = omega arith
all_few d (m ∷ ms) (one, more) =
    let two = all_few d ms more in
    omega (arith, one)

each_few : (d : ℕ) (ms : List tree.Module) → in_modules ms ≤ suc d → Every (Few d) ms
each_few d [] h = tt
each_few d (m ∷ ms) h = (omega (arith, h), each_few d ms (omega (arith, h)))

module_begins : (m : tree.Module) (ts rest : Tokens) → DerivesModule m ts rest → (at_no_module ts ≡ false) × Unit {0}
module_begins m ts rest (a, one, two) = (rw one refl, tt)

modules_ok : (d : ℕ) (ts rest : Tokens) (ms : List tree.Module) → modules d ts ≡ Some (ms, rest) → Each DerivesModule ms ts rest × (in_modules ms ≤ suc d)
unfolding modules
modules_ok d ts rest ms h =
    let (xs, same, each, every, stop) = many_ok at_no_module (module_text d) DerivesModule (Few d) (module_ok d) [] ms ts rest h in
    subst (λ z. Each DerivesModule z ts rest × (in_modules z ≤ suc d)) (sym same) (each, all_few d xs every)

modules_reads : (d : ℕ) (ms : List tree.Module) (ts rest : Tokens) → Each DerivesModule ms ts rest → in_modules ms ≤ suc d → at_no_module rest ≡ true → modules d ts ≡ Some (ms, rest)
unfolding modules
modules_reads d ms ts rest h few end = many_reads at_no_module (module_text d) DerivesModule (Few d) (λ ts. Unit {0}) (λ m ts rest is few follow. module_reads d m ts rest is few) module_begins (λ m ts rest is. (module_shortens m).leaves ts rest is) ms [] ts rest h (each_few d ms few) end tt

-- the top

top_ok : (ts rest : Tokens) (x : Top) → top ts ≡ Some (x, rest) → DerivesTop x ts rest
unfolding top
top_ok ts rest x h =
    let (line, a, one, h1) = and_then_ok (word w.Top ts) _ (x, rest) h in
    let (of, b, two, h2) = and_then_ok (name a) _ (x, rest) h1 in
    let (bytes, c, three, h3) = and_then_ok (name b) _ (x, rest) h2 in
    let (end, d, four, h4) = and_then_ok (symbol s.Semicolon c) _ (x, rest) h3 in
    made (λ x d. DerivesTop x ts d) h4 (a, this_word_at w.Top ts a line one, (b, name_ok a b of two, (c, name_ok b c bytes three, symbol_ok s.Semicolon c d end four)))

top_reads : (x : Top) (ts rest : Tokens) → DerivesTop x ts rest → top ts ≡ Some (x, rest)
unfolding top
top_reads x ts rest (a, one, (b, two, (c, three, four))) =
    rw (word_reads w.Top ts a (x.line, one), name_reads x.module a b two, name_reads x.name b c three, symbol_reads s.Semicolon c rest four) refl

-- whole texts

model_ok : (ts rest : Tokens) (m : tree.Model) → model ts ≡ Some (m, rest) → DerivesModel m ts rest × (in_modules m.modules ≤ 64)
unfolding model
model_ok ts rest m h =
    let (ms, a, one, h1) = and_then_ok (modules 63 ts) _ (m, rest) h in
    let (x, b, two, h2) = and_then_ok (top a) _ (m, rest) h1 in
    let all = modules_ok 63 ts a ms one in
    made (λ m b. DerivesModel m ts b × (in_modules m.modules ≤ 64)) h2 ((a, all.0, top_ok a b x two), all.1)

model_reads : (m : tree.Model) (ts rest : Tokens) → DerivesModel m ts rest → in_modules m.modules ≤ 64 → model ts ≡ Some (m, rest)
unfolding model
model_reads m ts rest (a, one, two) few =
    rw (modules_reads 63 m.modules ts a one few (rw two.1 refl), top_reads m.top a rest two) refl

-- what a text says of its language

resolution_ok : (ts rest : Tokens) (o : Option ResolutionLine) → resolution ts ≡ Some (o, rest) → Maybe DerivesResolution o ts rest
unfolding resolution
resolution_ok ts rest o h =
    choose_cases (sees (is_the_word w.Resolution)) some_resolution (pure None) ts (o, rest) h
    (λ is h.
    let (line, a, one, h1) = and_then_ok (word w.Resolution ts) _ (o, rest) h in
    let (x, b, two, h2) = and_then_ok (time_span a) _ (o, rest) h1 in
    let (end, c, three, h3) = and_then_ok (symbol s.Semicolon b) _ (o, rest) h2 in
    made (λ o c. Maybe DerivesResolution o ts c) h3 (a, this_word_at w.Resolution ts a line one, (b, time_span_ok a b x two, symbol_ok s.Semicolon b c end three)))
    (λ is h. made (λ o b. Maybe DerivesResolution o ts b) h refl)

resolution_reads : (o : Option ResolutionLine) (ts rest : Tokens) → Maybe DerivesResolution o ts rest → sees (is_the_word w.Resolution) rest ≡ false → resolution ts ≡ Some (o, rest)
unfolding resolution
resolution_reads None ts rest h free = choose_other (sees (is_the_word w.Resolution)) some_resolution (pure None) ts _ (rw h free) (rw h refl)
resolution_reads (Some x) ts rest (a, one, (b, two, three)) free =
    let read : some_resolution ts ≡ Some (Some x, rest) = rw (word_reads w.Resolution ts a (x.line, one), time_span_reads x.span a b two, symbol_reads s.Semicolon b rest three) refl in
    choose_first (sees (is_the_word w.Resolution)) some_resolution (pure None) ts _ (word_sees w.Resolution ts a (x.line, one)) read

head_ok : (ts rest : Tokens) (x : Head) → head_text ts ≡ Some (x, rest) → DerivesHead x ts rest
unfolding head_text
head_ok ts rest x h =
    choose_cases (sees (is_the_word w.Language)) second_head (pure head.First) ts (x, rest) h
    (λ is h.
    let (line, a, one, h1) = and_then_ok (word w.Language ts) _ (x, rest) h in
    let (version, b, two, h2) = and_then_ok (this_number 2 a) _ (x, rest) h1 in
    let (end, c, three, h3) = and_then_ok (symbol s.Semicolon b) _ (x, rest) h2 in
    let (r, d, four, h4) = and_then_ok (resolution c) _ (x, rest) h3 in
    made (λ x d. DerivesHead x ts d) h4 (a, word_ok w.Language ts a line one, (b, this_number_ok 2 a b version two, (c, symbol_ok s.Semicolon b c end three, resolution_ok c d r four))))
    (λ is h. made (λ x b. DerivesHead x ts b) h refl)

head_reads : (x : Head) (ts rest : Tokens) → DerivesHead x ts rest → sees (is_the_word w.Language) rest ≡ false → sees (is_the_word w.Resolution) rest ≡ false → head_text ts ≡ Some (x, rest)
unfolding head_text
head_reads head.First ts rest h free bare = choose_other (sees (is_the_word w.Language)) second_head (pure head.First) ts _ (rw h free) (rw h refl)
head_reads (head.Second r) ts rest (a, one, (b, two, (c, three, four))) free bare =
    let read : second_head ts ≡ Some (head.Second r, rest) = rw (word_reads w.Language ts a one, this_number_reads 2 a b two, symbol_reads s.Semicolon b c three, resolution_reads r c rest four bare) refl in
    choose_first (sees (is_the_word w.Language)) second_head (pure head.First) ts _ (word_sees w.Language ts a one) read

-- modules and the top begin with their words
begins_apart : (v : Word) → sees (is_the_word v) ((t.word w.Module, 0) ∷ []) ≡ false → sees (is_the_word v) ((t.word w.Top, 0) ∷ []) ≡ false → (ms : List tree.Module) (x : Top) (ts rest : Tokens) → DerivesModel (record { modules = ms; top = x }) ts rest → sees (is_the_word v) ts ≡ false
begins_apart v p q [] x ts rest (mid, none, (a, one, more)) = rw (none, one) q
begins_apart v p q (m ∷ ms) x ts rest (mid, (b, (a, one, more), others), last) = rw one p

-- whole texts

source_ok : (ts rest : Tokens) (x : tree.Source) → source ts ≡ Some (x, rest) → DerivesSource x ts rest × (in_modules x.model.modules ≤ 64)
unfolding source
source_ok ts rest x h =
    let (y, a, one, h1) = and_then_ok (head_text ts) _ (x, rest) h in
    let (m, b, two, h2) = and_then_ok (model a) _ (x, rest) h1 in
    let all = model_ok a b m two in
    made (λ (x : tree.Source) b. DerivesSource x ts b × (in_modules x.model.modules ≤ 64)) h2 ((a, head_ok ts a y one, all.0), all.1)

source_reads : (x : tree.Source) (ts rest : Tokens) → DerivesSource x ts rest → in_modules x.model.modules ≤ 64 → source ts ≡ Some (x, rest)
unfolding source
source_reads x ts rest (a, one, two) few =
    let free = begins_apart w.Language refl refl x.model.modules x.model.top a rest two in
    let bare = begins_apart w.Resolution refl refl x.model.modules x.model.top a rest two in
    rw (head_reads x.head ts a one free bare, model_reads x.model a rest two few) refl

whole_ok : {A : Type 0} (o : Option (A × Tokens)) (x : A) → whole o ≡ Some x → o ≡ Some (x, [])
whole_ok None x h = cc
whole_ok (Some (y, [])) x h = ap (λ z. Some (z, [])) (same_Some y x h)
whole_ok (Some (y, (t ∷ ts))) x h = cc

-- what is read from a text, the text reads as
pub found_reads : (text : List ℕ) (x : tree.Source) → IsFound text x → Reads text x
unfolding from_tokens
found_reads text x (ts, cut, h) =
    let all = source_ok (in_language (with_lines ts)) [] x (whole_ok (source (in_language (with_lines ts))) x h) in
    (ts, cut, all.0, all.1)

-- what tokens derive is read from them
pub derived_found : (x : tree.Source) (ts : Tokens) → DerivesSource x ts [] → in_modules x.model.modules ≤ 64 → from_tokens ts ≡ Some x
unfolding from_tokens
derived_found x ts h few = rw (source_reads x ts [] h few) refl

-- a text has one list of tokens, and so one tree
pub found_one : (text : List ℕ) (x y : tree.Source) → IsFound text x → Reads text y → x ≡ y
found_one text x y (ts, cut, h) (us, other, derived, few) =
    let same : ts ≡ us = one_cut_from text 0 ts us cut other in
    same_Some x y (sym h ∙ (ap (λ z. from_tokens (in_language (with_lines z))) same ∙ derived_found y (in_language (with_lines us)) derived few))

pub reads_found : (text : List ℕ) (x : tree.Source) → Reads text x → IsFound text x
reads_found text x (ts, cut, derived, few) = (ts, cut, derived_found x (in_language (with_lines ts)) derived few)

pub reads_one : (text : List ℕ) (x y : tree.Source) → Reads text x → Reads text y → x ≡ y
reads_one text x y one two = found_one text x y (reads_found text x one) two
