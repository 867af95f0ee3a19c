-- The laws of times, constants and first values: what is read is derived, and what is derived is read.
use Rattle.std.proofs.Common.{◌≡◌, ℕ, Bool, true, false, length, Option, Some, None, refl, sym, ap, subst, arith}
use Rattle.std.specs.Prelude.{◌&&◌, nat_le, is_some}
use Rattle.std.proofs.lemmas.Bool.{le-leb, and_parts}
use Rattle.std.proofs.lemmas.Option.{cond_some}
use Rattle.parse_statements.specs.LogicValues.declared.planes.Lv.{Lv}
use Rattle.parse_statements.specs.LogicValues.Digits.{digits}
use Rattle.parse_statements.specs.LogicValues.Planes.{lv_of}
use Rattle.parse_statements.proofs.LogicValues.VectorLaws.{length-digits, digits-lv_of, lv_of-digits}
use Rattle.parse_statements.specs.SimTime.declared.moments.Unit.{Unit as TimeUnit}
use Rattle.model_tree.specs.declared.vocabulary.Word.TheVariants as w
use Rattle.model_tree.specs.declared.vocabulary.Symbol.TheVariants as s
use Rattle.model_tree.specs.declared.types.Constant.{Constant}
use Rattle.model_tree.specs.declared.types.ConstantForm.{ConstantForm}
use Rattle.model_tree.specs.declared.types.ConstantForm.TheVariants as constant_form
use Rattle.model_tree.specs.declared.types.Span.{Span}
use Rattle.parse_statements.specs.ModelLexer.Tokens as t
use Rattle.parse_statements.specs.ModelLexer.Tokens.{Tokens}
use Rattle.parse_statements.specs.ModelLexer.Rules.{At, Takes, Maybe}
use Rattle.parse_statements.specs.ModelLexer.Expressions.{is_the_symbol, sees, unit_in}
use Rattle.model_tree.specs.Spelling.{truth_word}
use Rattle.parse_statements.specs.ModelLexer.Items.{DerivesConstantForm, DerivesConstant, DerivesFirstValue, DerivesTime}
use Rattle.parse_statements.specs.ParseExpressions.Parse.{pure, refuse, word, is_the_word, skip, symbol, number, numbered, logical, sees_number, unit_ahead}
use Rattle.parse_statements.proofs.ParseExpressions.Parsers.{and_then_ok, choose_cases, choose_first, choose_other, where_cases, made}
use Rattle.parse_statements.proofs.ParseExpressions.OneToken.{symbol_at, symbol_ok, symbol_reads, symbol_sees, number_ok, number_reads, numbered_ok, numbered_reads, logical_ok, logical_reads, this_word_at, word_reads, skip_reads}
use Rattle.parse_statements.proofs.ParseExpressions.Sound.{unit_taken, is_le}
use Rattle.parse_statements.proofs.ParseExpressions.Complete.{unit_comes, no_unit}
use Rattle.model_parser.specs.ItemParse.{unit_behind, time_unit, time_span, constant_with_unit, number_constant, negative_constant, truth_constant, vector_constant, logic_constant, false_or_logic, truth_or_logic, negative_or_less, constant, some_value, first_value}

-- times

time_unit_ok : (ts rest : Tokens) (u : TimeUnit) → time_unit ts ≡ Some (u, rest) → Takes (t.unit_token u) ts rest
unfolding time_unit
time_unit_ok ts rest u h =
    where_cases (unit_ahead ts) refuse unit_behind ts (u, rest) h
    (λ none h1. cc)
    (λ v some h1.
    let (line, a, one, h2) = and_then_ok (skip ts) _ (u, rest) h1 in
    made (λ x a. Takes (t.unit_token x) ts a) h2 (unit_taken v line ts a some one))

pub time_span_ok : (ts rest : Tokens) (x : Span) → time_span ts ≡ Some (x, rest) → DerivesTime x ts rest
unfolding time_span
time_span_ok ts rest x h =
    let (n, a, one, h1) = and_then_ok (number ts) _ (x, rest) h in
    let (u, b, two, h2) = and_then_ok (time_unit a) _ (x, rest) h1 in
    made (λ x b. DerivesTime x ts b) h2 (a, number_ok ts a n one, time_unit_ok a b u two)

time_unit_reads : (u : TimeUnit) (ts rest : Tokens) → Takes (t.unit_token u) ts rest → time_unit ts ≡ Some (u, rest)
unfolding time_unit
time_unit_reads u ts rest h = rw (unit_comes u ts rest h, skip_reads (t.unit_token u) h.0 ts rest h.1) refl

pub time_span_reads : (x : Span) (ts rest : Tokens) → DerivesTime x ts rest → time_span ts ≡ Some (x, rest)
unfolding time_span
time_span_reads x ts rest (a, one, two) = rw (number_reads x.count ts a one, time_unit_reads x.unit a rest two) refl

-- constants

number_constant_ok : (ts rest : Tokens) (c : Constant) → number_constant ts ≡ Some (c, rest) → DerivesConstant c ts rest
unfolding number_constant
number_constant_ok ts rest c h =
    let (x, a, one, h1) = and_then_ok (numbered ts) _ (c, rest) h in
    where_cases (unit_ahead a) (pure (record { line = x.0; form = constant_form.Number x.1 })) (constant_with_unit x) a (c, rest) h1
    (λ none h2. made (λ c b. DerivesConstant c ts b) h2 (numbered_ok ts a x one))
    (λ u some h2.
    let (line, b, two, h3) = and_then_ok (skip a) _ (c, rest) h2 in
    made (λ c b. DerivesConstant c ts b) h3 (a, numbered_ok ts a x one, unit_taken u line a b some two))

negative_constant_ok : (ts rest : Tokens) (c : Constant) → negative_constant ts ≡ Some (c, rest) → DerivesConstant c ts rest
unfolding negative_constant
negative_constant_ok ts rest c h =
    let (line, a, one, h1) = and_then_ok (symbol s.Minus ts) _ (c, rest) h in
    let (n, b, two, h2) = and_then_ok (number a) _ (c, rest) h1 in
    made (λ c b. DerivesConstant c ts b) h2 (a, symbol_at s.Minus ts a line one, number_ok a b n two)

truth_constant_ok : (b : Bool) (ts rest : Tokens) (c : Constant) → truth_constant (truth_word b) b ts ≡ Some (c, rest) → DerivesConstant c ts rest
unfolding truth_constant
truth_constant_ok b ts rest c h =
    let (line, a, one, h1) = and_then_ok (word (truth_word b) ts) _ (c, rest) h in
    made (λ c a. DerivesConstant c ts a) h1 (this_word_at (truth_word b) ts a line one)

logic_constant_ok : (ts rest : Tokens) (c : Constant) → logic_constant ts ≡ Some (c, rest) → DerivesConstant c ts rest
unfolding logic_constant
logic_constant_ok ts rest c h =
    let (x, a, one, h1) = and_then_ok (logical ts) _ (c, rest) h in
    let in_range = cond_some (nat_le 1 (length x.1) && nat_le (length x.1) 64) (record { line = x.0; form = constant_form.Logic (lv_of x.1) }, a) (c, rest) h1 in
    let parts = and_parts (nat_le 1 (length x.1)) (nat_le (length x.1) 64) in_range.0 in
    let same : digits (lv_of x.1) ≡ x.1 = digits-lv_of x.1 (is_le 1 (length x.1) parts.0) (is_le (length x.1) 64 parts.1) in
    made (λ c b. DerivesConstant c ts b) (ap Some in_range.1) (subst (λ ds. At x.0 (t.logic ds) ts a) (sym same) (logical_ok ts a x one))

pub constant_ok : (ts rest : Tokens) (c : Constant) → constant ts ≡ Some (c, rest) → DerivesConstant c ts rest
unfolding constant
constant_ok ts rest c h =
    choose_cases sees_number number_constant negative_or_less ts (c, rest) h
    (λ is h. number_constant_ok ts rest c h)
    (λ is h. choose_cases (sees (is_the_symbol s.Minus)) negative_constant truth_or_logic ts (c, rest) h
    (λ is h. negative_constant_ok ts rest c h)
    (λ is h. choose_cases (sees (is_the_word w.True)) (truth_constant w.True true) false_or_logic ts (c, rest) h
    (λ is h. truth_constant_ok true ts rest c h)
    (λ is h. choose_cases (sees (is_the_word w.False)) (truth_constant w.False false) logic_constant ts (c, rest) h
    (λ is h. truth_constant_ok false ts rest c h)
    (λ is h. logic_constant_ok ts rest c h))))

pub first_value_ok : (ts rest : Tokens) (o : Option Constant) → first_value ts ≡ Some (o, rest) → Maybe DerivesFirstValue o ts rest
unfolding first_value
first_value_ok ts rest o h =
    choose_cases (sees (is_the_symbol s.Equal)) some_value (pure None) ts (o, rest) h
    (λ is h.
    let (line, a, one, h1) = and_then_ok (symbol s.Equal ts) _ (o, rest) h in
    let (c, b, two, h2) = and_then_ok (constant a) _ (o, rest) h1 in
    made (λ o b. Maybe DerivesFirstValue o ts b) h2 (a, symbol_ok s.Equal ts a line one, constant_ok a b c two))
    (λ is h. made (λ o b. Maybe DerivesFirstValue o ts b) h refl)

pub vector_reads : (line : ℕ) (v : Lv) (ts : Tokens) → vector_constant (line, digits v) ts ≡ Some (record { line = line; form = constant_form.Logic v }, ts)
vector_reads line v ts =
    let long : length (digits v) ≡ v.width = length-digits v in
    let one : nat_le 1 (length (digits v)) ≡ true = le-leb 1 (length (digits v)) (omega (arith, long, v.not_empty)) in
    let two : nat_le (length (digits v)) 64 ≡ true = le-leb (length (digits v)) 64 (omega (arith, long, v.at_most_64)) in
    rw (one, two, lv_of-digits v) refl

form_reads : (line : ℕ) (f : ConstantForm) (ts rest : Tokens) → DerivesConstantForm line f ts rest → sees (λ x. is_some (unit_in x)) rest ≡ false → constant ts ≡ Some (record { line = line; form = f }, rest)
unfolding constant number_constant negative_constant truth_constant logic_constant
form_reads line (constant_form.Number n) ts rest h none =
    let read : number_constant ts ≡ Some (record { line = line; form = constant_form.Number n }, rest) = rw (numbered_reads line n ts rest h, no_unit rest none) refl in
    choose_first sees_number number_constant negative_or_less ts _ (rw h refl) read
form_reads line (constant_form.Negative n) ts rest (a, one, two) none =
    let read : negative_constant ts ≡ Some (record { line = line; form = constant_form.Negative n }, rest) = rw (symbol_reads s.Minus ts a (line, one), number_reads n a rest two) refl in
    choose_other sees_number number_constant negative_or_less ts _ (rw one refl)
    (choose_first (sees (is_the_symbol s.Minus)) negative_constant truth_or_logic ts _ (rw one refl) read)
form_reads line (constant_form.Time n u) ts rest (a, one, two) none =
    let read : number_constant ts ≡ Some (record { line = line; form = constant_form.Time n u }, rest) = rw (numbered_reads line n ts a one, unit_comes u a rest two, skip_reads (t.unit_token u) two.0 a rest two.1) refl in
    choose_first sees_number number_constant negative_or_less ts _ (rw one refl) read
form_reads line (constant_form.Logic v) ts rest h none =
    let read : logic_constant ts ≡ Some (record { line = line; form = constant_form.Logic v }, rest) = rw (logical_reads line (digits v) ts rest h) (vector_reads line v rest) in
    rw h (rw h at read)
form_reads line (constant_form.Truth true) ts rest h none =
    let read : truth_constant w.True true ts ≡ Some (record { line = line; form = constant_form.Truth true }, rest) = rw (word_reads w.True ts rest (line, h)) refl in
    rw h (rw h at read)
form_reads line (constant_form.Truth false) ts rest h none =
    let read : truth_constant w.False false ts ≡ Some (record { line = line; form = constant_form.Truth false }, rest) = rw (word_reads w.False ts rest (line, h)) refl in
    rw h (rw h at read)

pub constant_reads : (c : Constant) (ts rest : Tokens) → DerivesConstant c ts rest → sees (λ x. is_some (unit_in x)) rest ≡ false → constant ts ≡ Some (c, rest)
constant_reads c ts rest h none = form_reads c.line c.form ts rest h none

pub first_value_reads : (o : Option Constant) (ts rest : Tokens) → Maybe DerivesFirstValue o ts rest → sees (is_the_symbol s.Equal) rest ≡ false → sees (λ x. is_some (unit_in x)) rest ≡ false → first_value ts ≡ Some (o, rest)
unfolding first_value
first_value_reads None ts rest h free none = choose_other (sees (is_the_symbol s.Equal)) some_value (pure None) ts _ (rw h free) (rw h refl)
first_value_reads (Some c) ts rest (a, one, two) free none =
    let read : some_value ts ≡ Some (Some c, rest) = rw (symbol_reads s.Equal ts a one, constant_reads c a rest two none) refl in
    choose_first (sees (is_the_symbol s.Equal)) some_value (pure None) ts _ (symbol_sees s.Equal ts a one) read
