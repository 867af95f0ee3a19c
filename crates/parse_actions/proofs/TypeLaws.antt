-- What the parser functions of types read is derived, and what is derived is read.
use Rattle.std.proofs.Common.{◌≡◌, ℕ, Bool, false, Some, refl}
use Rattle.model_tree.specs.declared.vocabulary.Word.{Word}
use Rattle.model_tree.specs.declared.vocabulary.Word.TheVariants as w
use Rattle.model_tree.specs.declared.vocabulary.Symbol.TheVariants as s
use Rattle.model_tree.specs.declared.types.SignalType.{SignalType}
use Rattle.model_tree.specs.declared.types.TypeForm.{TypeForm}
use Rattle.model_tree.specs.declared.types.TypeForm.TheVariants as form
use Rattle.model_tree.specs.declared.types.VarType.{VarType}
use Rattle.model_tree.specs.declared.types.VarType.TheVariants as var_type
use Rattle.parse_expressions.specs.ModelLexer.Tokens as t
use Rattle.parse_expressions.specs.ModelLexer.Tokens.{Tokens}
use Rattle.parse_expressions.specs.ModelLexer.Rules.{At}
use Rattle.parse_expressions.specs.ModelLexer.Expressions.{sees}
use Rattle.parse_expressions.specs.ModelLexer.Statements.{Width, DerivesForm, DerivesType, DerivesVarTypeAt}
use Rattle.parse_expressions.specs.Parse.{symbol, number, word, is_the_word}
use Rattle.parse_expressions.proofs.Parsers.{choose_cases, and_then_ok, made}
use Rattle.parse_expressions.proofs.OneToken.{symbol_ok, number_ok, symbol_reads, number_reads, this_word_at}
use Rattle.parse_actions.specs.ChannelParse.{width, plain_type, int_type, uint_type, vector_type, uint_or_vector, integer_or_vector, logic_or_wide, signal_type, type_word, plain_variable_type, payload_or_plain, process_or_less, variable_type}

width_ok : (ts rest : Tokens) (n : ℕ) → width ts ≡ Some (n, rest) → Width n ts rest
unfolding width
width_ok ts rest n h =
    let (less, a, one, h1) = and_then_ok (symbol s.Less ts) _ (n, rest) h in
    let (v, b, two, h2) = and_then_ok (number a) _ (n, rest) h1 in
    let (greater, c, three, h3) = and_then_ok (symbol s.Greater b) _ (n, rest) h2 in
    made (λ z. Width z ts) h3 (a, symbol_ok s.Less ts a less one, (b, number_ok a b v two, symbol_ok s.Greater b c greater three))

width_reads : (n : ℕ) (ts rest : Tokens) → Width n ts rest → width ts ≡ Some (n, rest)
unfolding width
width_reads n ts rest (a, one, (b, two, three)) = rw (symbol_reads s.Less ts a one, number_reads n a b two, symbol_reads s.Greater b rest three) refl

plain_ok : (v : Word) (f : TypeForm) (ts rest : Tokens) (x : SignalType) → ((line : ℕ) (mid : Tokens) → At line (t.word v) ts mid → DerivesForm line f ts mid) → plain_type v f ts ≡ Some (x, rest) → DerivesType x ts rest
unfolding plain_type
plain_ok v f ts rest x is h =
    let (line, a, one, h1) = and_then_ok (word v ts) _ (x, rest) h in
    made (λ z. DerivesType z ts) h1 (is line a (this_word_at v ts a line one))

int_ok : (ts rest : Tokens) (x : SignalType) → int_type ts ≡ Some (x, rest) → DerivesType x ts rest
unfolding int_type
int_ok ts rest x h =
    let (line, a, one, h1) = and_then_ok (word w.Int ts) _ (x, rest) h in
    let (n, b, two, h2) = and_then_ok (width a) _ (x, rest) h1 in
    made (λ z. DerivesType z ts) h2 (a, this_word_at w.Int ts a line one, width_ok a b n two)

uint_ok : (ts rest : Tokens) (x : SignalType) → uint_type ts ≡ Some (x, rest) → DerivesType x ts rest
unfolding uint_type
uint_ok ts rest x h =
    let (line, a, one, h1) = and_then_ok (word w.Uint ts) _ (x, rest) h in
    let (n, b, two, h2) = and_then_ok (width a) _ (x, rest) h1 in
    made (λ z. DerivesType z ts) h2 (a, this_word_at w.Uint ts a line one, width_ok a b n two)

vector_ok : (ts rest : Tokens) (x : SignalType) → vector_type ts ≡ Some (x, rest) → DerivesType x ts rest
unfolding vector_type
vector_ok ts rest x h =
    let (line, a, one, h1) = and_then_ok (word w.Lv ts) _ (x, rest) h in
    let (n, b, two, h2) = and_then_ok (width a) _ (x, rest) h1 in
    made (λ z. DerivesType z ts) h2 (a, this_word_at w.Lv ts a line one, width_ok a b n two)

pub signal_type_ok : (ts rest : Tokens) (x : SignalType) → signal_type ts ≡ Some (x, rest) → DerivesType x ts rest
unfolding signal_type
signal_type_ok ts rest x h =
    choose_cases (sees (is_the_word w.Bool)) (plain_type w.Bool form.Bool) logic_or_wide ts (x, rest) h
    (λ is h. plain_ok w.Bool form.Bool ts rest x (λ line mid at. at) h)
    (λ is h. choose_cases (sees (is_the_word w.Logic)) (plain_type w.Logic form.Logic) integer_or_vector ts (x, rest) h
    (λ is h. plain_ok w.Logic form.Logic ts rest x (λ line mid at. at) h)
    (λ is h. choose_cases (sees (is_the_word w.Int)) int_type uint_or_vector ts (x, rest) h
    (λ is h. int_ok ts rest x h)
    (λ is h. choose_cases (sees (is_the_word w.Uint)) uint_type vector_type ts (x, rest) h
    (λ is h. uint_ok ts rest x h)
    (λ is h. vector_ok ts rest x h))))

form_reads : (line : ℕ) (f : TypeForm) (ts rest : Tokens) → DerivesForm line f ts rest → signal_type ts ≡ Some (record { line = line; form = f }, rest)
unfolding signal_type plain_type int_type uint_type vector_type word
form_reads line form.Bool ts rest h = rw h refl
form_reads line form.Logic ts rest h = rw h refl
form_reads line (form.Int n) ts rest (a, one, two) = rw (one, width_reads n a rest two) refl
form_reads line (form.Uint n) ts rest (a, one, two) = rw (one, width_reads n a rest two) refl
form_reads line (form.Vector n) ts rest (a, one, two) = rw (one, width_reads n a rest two) refl

pub signal_type_reads : (x : SignalType) (ts rest : Tokens) → DerivesType x ts rest → signal_type ts ≡ Some (x, rest)
signal_type_reads x ts rest h = form_reads x.line x.form ts rest h

-- types of variables

type_word_ok : (v : Word) (y : VarType) (ts rest : Tokens) (x : ℕ × VarType) → ((line : ℕ) (mid : Tokens) → At line (t.word v) ts mid → DerivesVarTypeAt line y ts mid) → type_word v y ts ≡ Some (x, rest) → DerivesVarTypeAt x.0 x.1 ts rest
unfolding type_word
type_word_ok v y ts rest x is h =
    let (line, a, one, h1) = and_then_ok (word v ts) _ (x, rest) h in
    made (λ (z : ℕ × VarType). DerivesVarTypeAt z.0 z.1 ts) h1 (is line a (this_word_at v ts a line one))

plain_variable_ok : (ts rest : Tokens) (x : ℕ × VarType) → plain_variable_type ts ≡ Some (x, rest) → DerivesVarTypeAt x.0 x.1 ts rest
unfolding plain_variable_type
plain_variable_ok ts rest x h =
    let (y, a, one, h1) = and_then_ok (signal_type ts) _ (x, rest) h in
    made (λ (z : ℕ × VarType). DerivesVarTypeAt z.0 z.1 ts) h1 (refl, signal_type_ok ts a y one)

pub variable_type_ok : (ts rest : Tokens) (x : ℕ × VarType) → variable_type ts ≡ Some (x, rest) → DerivesVarTypeAt x.0 x.1 ts rest
unfolding variable_type
variable_type_ok ts rest x h =
    choose_cases (sees (is_the_word w.Time)) (type_word w.Time var_type.Time) process_or_less ts (x, rest) h
    (λ is h. type_word_ok w.Time var_type.Time ts rest x (λ line mid at. at) h)
    (λ is h. choose_cases (sees (is_the_word w.Process)) (type_word w.Process var_type.Process) payload_or_plain ts (x, rest) h
    (λ is h. type_word_ok w.Process var_type.Process ts rest x (λ line mid at. at) h)
    (λ is h. choose_cases (sees (is_the_word w.Payload)) (type_word w.Payload var_type.Payload) plain_variable_type ts (x, rest) h
    (λ is h. type_word_ok w.Payload var_type.Payload ts rest x (λ line mid at. at) h)
    (λ is h. plain_variable_ok ts rest x h)))

-- none of the five words that a type of signals begins with passes the test
abbrev pub PassesNoTypeWord : (t.Token → Bool) → Type 0
PassesNoTypeWord test = (test (t.word w.Bool) ≡ false) × (test (t.word w.Logic) ≡ false) × (test (t.word w.Int) ≡ false) × (test (t.word w.Uint) ≡ false) × (test (t.word w.Lv) ≡ false)

-- so where such a type comes, no token that passes does
pub form_begins_not : (test : t.Token → Bool) → PassesNoTypeWord test → (line : ℕ) (f : TypeForm) (ts rest : Tokens) → DerivesForm line f ts rest → sees test ts ≡ false
form_begins_not test fails line form.Bool ts rest h = rw h fails.0
form_begins_not test fails line form.Logic ts rest h = rw h fails.1
form_begins_not test fails line (form.Int n) ts rest h = rw h.1 fails.2
form_begins_not test fails line (form.Uint n) ts rest h = rw h.1 fails.3
form_begins_not test fails line (form.Vector n) ts rest h = rw h.1 fails.4

plain_variable_reads : (x : SignalType) (ts rest : Tokens) → DerivesType x ts rest → variable_type ts ≡ Some ((x.line, var_type.Plain x), rest)
unfolding variable_type plain_variable_type
plain_variable_reads x ts rest h =
    let no_time = form_begins_not (is_the_word w.Time) (refl, refl, refl, refl, refl) x.line x.form ts rest h in
    let no_process = form_begins_not (is_the_word w.Process) (refl, refl, refl, refl, refl) x.line x.form ts rest h in
    let no_payload = form_begins_not (is_the_word w.Payload) (refl, refl, refl, refl, refl) x.line x.form ts rest h in
    rw (no_time, no_process, no_payload, signal_type_reads x ts rest h) refl

pub variable_type_reads : (line : ℕ) (x : VarType) (ts rest : Tokens) → DerivesVarTypeAt line x ts rest → variable_type ts ≡ Some ((line, x), rest)
unfolding variable_type type_word word
variable_type_reads line (var_type.Plain x) ts rest (same, h) = rw same (plain_variable_reads x ts rest h)
variable_type_reads line var_type.Time ts rest h = rw h refl
variable_type_reads line var_type.Process ts rest h = rw h refl
variable_type_reads line var_type.Payload ts rest h = rw h refl
