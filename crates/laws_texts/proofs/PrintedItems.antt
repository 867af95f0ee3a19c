-- The printed tokens of items and of a whole text are those of the same ones, but for line numbers.
use Rattle.std.proofs.Common.{◌≡◌, ℕ, zero, suc, ◌/◌, Bool, true, false, ◌&&◌, List, [], ◌∷◌, ◌++◌, length, append_assoc, Option, Some, refl, sym, ap, subst}
use Rattle.std.specs.Prelude.{map, option_map, nat_le, nat_lt}
use Rattle.std.proofs.lemmas.Bool.{and_parts, and_from, lt-ltb, le-leb}
use Rattle.model_print.specs.LogicValues.declared.planes.Lv.{Lv}
use Rattle.model_print.specs.LogicValues.Digits.{digits, digits_in}
use Rattle.model_print.specs.ModelTree.declared.vocabulary.Word.{Word}
use Rattle.model_print.specs.ModelTree.declared.vocabulary.Word.TheVariants as w
use Rattle.model_print.specs.ModelTree.declared.vocabulary.Symbol.TheVariants as s
use Rattle.model_print.specs.ModelTree.declared.types.VarType.{VarType}
use Rattle.model_print.specs.ModelTree.declared.types.Constant.{Constant}
use Rattle.model_print.specs.ModelTree.declared.types.ConstantForm.{ConstantForm}
use Rattle.model_print.specs.ModelTree.declared.types.ConstantForm.TheVariants as constant
use Rattle.model_print.specs.ModelTree.declared.types.Span.{Span}
use Rattle.model_print.specs.ModelTree.declared.types.Interface.{Interface}
use Rattle.model_print.specs.ModelTree.declared.types.Interface.TheVariants as interface
use Rattle.model_print.specs.ModelTree.declared.types.BoundRule.{BoundRule}
use Rattle.model_print.specs.ModelTree.declared.types.BoundRule.TheVariants as bound
use Rattle.model_print.specs.ModelTree.declared.types.PortSize.{PortSize}
use Rattle.model_print.specs.ModelTree.declared.types.Parameter.{Parameter}
use Rattle.model_print.specs.ModelTree.declared.types.End.{End}
use Rattle.model_print.specs.ModelTree.declared.items.InitiatorRole.{InitiatorRole}
use Rattle.model_print.specs.ModelTree.declared.items.InitiatorRole.TheVariants as initiator
use Rattle.model_print.specs.ModelTree.declared.items.TargetRole.{TargetRole}
use Rattle.model_print.specs.ModelTree.declared.items.TargetRole.TheVariants as target
use Rattle.model_print.specs.ModelTree.declared.items.SignalItem.{SignalItem}
use Rattle.model_print.specs.ModelTree.declared.items.ClockItem.{ClockItem}
use Rattle.model_print.specs.ModelTree.declared.items.ResolutionLine.{ResolutionLine}
use Rattle.model_print.specs.ModelTree.declared.items.Head.{Head}
use Rattle.model_print.specs.ModelTree.declared.items.Head.TheVariants as head
use Rattle.model_print.specs.ModelTree.declared.items.Top.{Top}
use Rattle.model_print.specs.ModelTree.Leaves.{is_name}
use Rattle.model_print.specs.ModelTree.Limits.{is_number, within, option_name, fits_events, fits_type, fits_var_type, fits_interface, fits_constant_form, fits_constant, fits_span, fits_number, fits_size, fits_initiator, fits_socket, fits_end, fits_parameters, fits_answer, fits_block, fits_item, fits_items, fits_modules, is_sound, bracket_limit, fits_resolution, fits_head}
use Rattle.model_print.specs.ModelTree.Tree as tree
use Rattle.model_lexer.specs.Tokens.{Tokens, name, number, logic, word, symbol}
use Rattle.model_lexer.specs.Rules.{At, Takes, Maybe}
use Rattle.model_print.specs.ModelTree.Spelling.{truth_word}
use Rattle.model_lexer.specs.Items.{DerivesConstantForm, DerivesConstant, DerivesFirstValue, DerivesTime, DerivesStart, DerivesFifoSize, DerivesInterface, DerivesBound, DerivesPortSize, DerivesHandler, DerivesInitiatorRole, DerivesTargetRole, DerivesEnd, DerivesMode, DerivesParameter, DerivesParameters, DerivesAnswer, DerivesItem, DerivesModule, DerivesTop, DerivesModel, DerivesResolution, DerivesHead, DerivesSource}
use Rattle.model_print.specs.ModelTree.Spelling.{signal_word, plain_word, process_word}
use Rattle.model_print.specs.Pieces as piece
use Rattle.model_print.specs.Leaves as leaf
use Rattle.model_print.specs.Printed as printed
use Rattle.laws_texts.specs.Unlined as unlined
use Rattle.laws_texts.proofs.Pieces.{word_piece, name_piece, number_piece, logic_piece, operator_piece, semicolon_piece, minus_piece, left_paren_piece, left_bracket_piece, right_paren_piece, right_bracket_piece}
use Rattle.laws_texts.proofs.Spelled.{Spelled, both, as_one, moved, loose, led, led_at, one, one_at, ended_by, of_nothing}
use Rattle.laws_texts.proofs.Lists.{name_spelled, flag_spelled, maybe_fixed, maybe_spelled, All, each_spelled, some_spelled}
use Rattle.laws_texts.proofs.PrintedExpressions.{unit_spelled}
use Rattle.laws_texts.proofs.PrintedStatements.{Fixed, opened, type_spelled, typed_at, typed, member_spelled, sensitive_spelled, option_named}
use Rattle.laws_texts.proofs.Actions.{headed, headed_name}
use Rattle.laws_texts.proofs.Blocks.{closed, braced, given, block_spelled}

-- constants
digits_length : (n unknown ones : ℕ) → length (digits_in n unknown ones) ≡ n
digits_length zero unknown ones = refl
digits_length (suc n) unknown ones = ap suc (digits_length n (unknown / 2) (ones / 2))

digits_few : (v : Lv) → (nat_lt 0 (length (digits v)) && nat_le (length (digits v)) 64) ≡ true
digits_few v = rw (digits_length v.width v.unknown v.ones) (and_from (nat_lt 0 v.width) (nat_le v.width 64) (lt-ltb 0 v.width v.not_empty) (le-leb v.width 64 v.at_most_64))

pub form_spelled : (f : ConstantForm) → fits_constant_form f ≡ true → Spelled true (λ (line : ℕ). DerivesConstantForm line f) (λ (line : ℕ). Unit {0}) (leaf.constant_form f)
form_spelled (constant.Number n) h = one_at true (piece.number n) (number n) (number_piece n h) refl refl
form_spelled (constant.Negative n) h =
    as_one (λ y. y.0) (λ y s. tt) (λ y ts rest d. d)
    (led_at true (piece.prefix s.Minus) (symbol s.Minus) minus_piece refl (one true (piece.number n) (number n) (number_piece n h) refl refl))
form_spelled (constant.Time n u) h =
    as_one (λ y. y.0) (λ y s. tt) (λ y ts rest d. d) (led_at true (piece.number n) (number n) (number_piece n h) refl (unit_spelled u))
form_spelled (constant.Logic v) h = one_at true (piece.logic (digits v)) (logic (digits v)) (logic_piece (digits v) (digits_few v)) refl refl
form_spelled (constant.Truth b) h = one_at true (piece.word (truth_word b)) (word (truth_word b)) (word_piece (truth_word b)) refl refl

pub constant_spelled : (c : Constant) → fits_constant_form c.form ≡ true → Spelled true DerivesConstant (λ y. unlined.constant y ≡ unlined.constant c) (leaf.constant_form c.form)
constant_spelled c h = as_one (λ line. record { line = line; form = c.form }) (λ y s. refl) (λ y ts rest d. d) (form_spelled c.form h)

constant_fits : (o : Option Constant) (c : Constant) → fits_constant o ≡ true → o ≡ Some c → fits_constant_form c.form ≡ true
constant_fits o c h e = subst (λ (z : Option Constant). fits_constant z ≡ true) e h

pub first_value_spelled : (o : Option Constant) → fits_constant o ≡ true → Spelled false (λ (y : Option Constant). Maybe DerivesFirstValue y) (λ (y : Option Constant). option_map unlined.constant y ≡ option_map unlined.constant o) (leaf.first_value o)
first_value_spelled o h = maybe_spelled unlined.constant DerivesFirstValue (λ x. piece.operator s.Equal ∷ leaf.constant_form x.form) o (λ c e. given (loose (constant_spelled c (constant_fits o c h e))))

-- times
pub time_spelled : (t : Span) → is_number t.count ≡ true → Fixed false (DerivesTime t) (leaf.span t)
time_spelled t h = led false (piece.number t.count) (number t.count) (number_piece t.count h) refl (unit_spelled t.unit)

span_fits : (o : Option Span) (t : Span) → fits_span o ≡ true → o ≡ Some t → is_number t.count ≡ true
span_fits o t h e = subst (λ (z : Option Span). fits_span z ≡ true) e h

start_spelled : (o : Option Span) → fits_span o ≡ true → Fixed false (Maybe DerivesStart o) (printed.start o)
start_spelled o h = maybe_fixed DerivesStart (λ t. piece.word w.Start ∷ leaf.span t) o (λ t e. led false (piece.word w.Start) (word w.Start) (word_piece w.Start) refl (time_spelled t (span_fits o t h e)))

number_fits : (o : Option ℕ) (n : ℕ) → fits_number o ≡ true → o ≡ Some n → is_number n ≡ true
number_fits o n h e = subst (λ (z : Option ℕ). fits_number z ≡ true) e h

fifo_size_spelled : (o : Option ℕ) → fits_number o ≡ true → Fixed false (Maybe DerivesFifoSize o) (printed.fifo_size o)
fifo_size_spelled o h =
    maybe_fixed DerivesFifoSize (λ n. piece.word w.Size ∷ piece.number n ∷ []) o
    (λ n e. led false (piece.word w.Size) (word w.Size) (word_piece w.Size) refl (one false (piece.number n) (number n) (number_piece n (number_fits o n h e)) refl refl))

-- ports
bound_spelled : (r : BoundRule) → Fixed false (DerivesBound r) (leaf.bound_rule r)
bound_spelled bound.One = of_nothing
bound_spelled bound.Zero = one false (piece.word w.Zero) (word w.Zero) (word_piece w.Zero) refl refl
bound_spelled bound.All = one false (piece.word w.AllBound) (word w.AllBound) (word_piece w.AllBound) refl refl

size_fits : (o : Option PortSize) (p : PortSize) → fits_size o ≡ true → o ≡ Some p → is_number p.count ≡ true
size_fits o p h e = subst (λ (z : Option PortSize). fits_size z ≡ true) e h

size_spelled : (o : Option PortSize) → fits_size o ≡ true → Fixed false (Maybe DerivesPortSize o) (piece.maybe leaf.port_size o)
size_spelled o h =
    maybe_fixed DerivesPortSize leaf.port_size o (λ p e.
    led false (piece.opening s.LeftBracket) (symbol s.LeftBracket) left_bracket_piece refl
    (led true (piece.number p.count) (number p.count) (number_piece p.count (size_fits o p h e)) refl
    (ended_by (piece.closing s.RightBracket) (symbol s.RightBracket) right_bracket_piece refl (bound_spelled p.rule))))

abbrev SameInterface : Interface → Interface → Type 0
SameInterface i y = unlined.interface_ y ≡ unlined.interface_ i

interface_at : (i : Interface) → fits_interface i ≡ true → Spelled true (λ (y : ℕ × Interface). DerivesInterface (At y.0) y.1) (λ (y : ℕ × Interface). SameInterface i y.1) (leaf.interface i)
interface_at (interface.In t) h = as_one (λ y. (y.0, interface.In y.1)) (λ y s. ap interface.In s) (λ y ts rest d. d) (headed w.In (loose (type_spelled t h)))
interface_at (interface.Out t) h = as_one (λ y. (y.0, interface.Out y.1)) (λ y s. ap interface.Out s) (λ y ts rest d. d) (headed w.Out (loose (type_spelled t h)))
interface_at (interface.FifoIn t) h = as_one (λ y. (y.0, interface.FifoIn y.1)) (λ y s. ap interface.FifoIn s) (λ y ts rest d. d) (headed w.FifoIn (loose (type_spelled t h)))
interface_at (interface.FifoOut t) h = as_one (λ y. (y.0, interface.FifoOut y.1)) (λ y s. ap interface.FifoOut s) (λ y ts rest d. d) (headed w.FifoOut (loose (type_spelled t h)))
interface_at interface.Mutex h = as_one (λ line. (line, interface.Mutex)) (λ y s. refl) (λ y ts rest d. d) (one_at true (piece.word w.MutexPort) (word w.MutexPort) (word_piece w.MutexPort) refl refl)
interface_at interface.Semaphore h =
    as_one (λ line. (line, interface.Semaphore)) (λ y s. refl) (λ y ts rest d. d) (one_at true (piece.word w.SemaphorePort) (word w.SemaphorePort) (word_piece w.SemaphorePort) refl refl)

anywhere : (y : ℕ × Interface) (ts rest : Tokens) → DerivesInterface (At y.0) y.1 ts rest → DerivesInterface Takes y.1 ts rest
anywhere (l, interface.In t) ts rest (m, a, b) = (m, (l, a), b)
anywhere (l, interface.Out t) ts rest (m, a, b) = (m, (l, a), b)
anywhere (l, interface.FifoIn t) ts rest (m, a, b) = (m, (l, a), b)
anywhere (l, interface.FifoOut t) ts rest (m, a, b) = (m, (l, a), b)
anywhere (l, interface.Mutex) ts rest d = (l, d)
anywhere (l, interface.Semaphore) ts rest d = (l, d)

interface_spelled : (i : Interface) → fits_interface i ≡ true → Spelled true (λ (y : Interface). DerivesInterface Takes y) (SameInterface i) (leaf.interface i)
interface_spelled i h = as_one (λ y. y.1) (λ y s. s) anywhere (interface_at i h)

-- sockets
own_handler_spelled : (v : Word) (x : Option (List ℕ)) → option_name x ≡ true → Fixed false (Maybe (DerivesHandler v) x) (printed.own_handler v x)
own_handler_spelled v x h = maybe_fixed (DerivesHandler v) (printed.with_name v) x (λ y e. led false (piece.word v) (word v) (word_piece v) refl (name_spelled false y (option_named x y h e)))

initiator_spelled : (r : InitiatorRole) → fits_initiator r ≡ true → Fixed false (DerivesInitiatorRole r) (printed.initiator_role r)
initiator_spelled initiator.Pass h = one false (piece.word w.Pass) (word w.Pass) (word_piece w.Pass) refl refl
initiator_spelled (initiator.Own x) h = own_handler_spelled w.Bw x h

target_spelled : (r : TargetRole) → fits_socket r ≡ true → Fixed false (DerivesTargetRole r) (printed.target_role r)
target_spelled target.Pass h = one false (piece.word w.Pass) (word w.Pass) (word_piece w.Pass) refl refl
target_spelled (target.Own x y) h =
    let parts = and_parts (option_name x) (option_name y) h in
    as_one (λ y. tt) (λ y s. tt) (λ y ts rest d. d) (both (own_handler_spelled w.Bt x parts.0) (own_handler_spelled w.Fw y parts.1))

end_spelled : (e : End) → fits_end e ≡ true → Spelled true DerivesEnd (λ y. unlined.binding_end y ≡ unlined.binding_end e) (leaf.binding_end e)
end_spelled e h =
    let parts = and_parts (is_name e.name) (option_name e.member) h in
    as_one (λ y. record { line = y.0; name = e.name; member = e.member }) (λ y s. refl) (λ y ts rest d. d)
    (led_at true (piece.name e.name) (name e.name) (name_piece e.name parts.0) refl (member_spelled e.member parts.1))

-- parameters
mode_spelled : (b : Bool) (t : VarType) → fits_var_type t ≡ true
    → Spelled true (λ (y : ℕ × VarType). DerivesMode b y.0 y.1) (λ (y : ℕ × VarType). unlined.var_type y.1 ≡ unlined.var_type t) (piece.flag w.Inout b ++ leaf.var_type t ∷ [])
mode_spelled true t h = headed w.Inout (loose (typed t h))
mode_spelled false t h = typed_at t h

parameter_spelled : (p : Parameter) → is_name p.name ≡ true → fits_var_type p.var_type ≡ true → Spelled true DerivesParameter (λ y. unlined.parameter y ≡ unlined.parameter p) (leaf.parameter p)
parameter_spelled p h k =
    as_one (λ y. record { line = y.0.0; inout = p.inout; var_type = y.0.1; name = p.name }) (λ y s. rw s.0 refl) (λ y ts rest d. d)
    (moved (append_assoc (piece.flag w.Inout p.inout) (leaf.var_type p.var_type ∷ []) (piece.name p.name ∷ []))
    (both (mode_spelled p.inout p.var_type k) (name_spelled false p.name h)))

parameters_all : (ps : List Parameter) → fits_parameters ps ≡ true → All unlined.parameter DerivesParameter leaf.parameter ps
parameters_all [] h = tt
parameters_all (p ∷ ps) h =
    let parts = and_parts (is_name p.name && fits_var_type p.var_type) (fits_parameters ps) h in
    let more = and_parts (is_name p.name) (fits_var_type p.var_type) parts.0 in
    (parameter_spelled p more.0 more.1, parameters_all ps parts.1)

parameters_spelled : (ps : List Parameter) → fits_parameters ps ≡ true → Spelled false DerivesParameters (λ ys. map unlined.parameter ys ≡ map unlined.parameter ps) (piece.bracketed (piece.separated leaf.parameter ps))
parameters_spelled [] h =
    as_one (λ y. []) (λ y s. refl) (λ y ts rest d. d)
    (led false (piece.opening s.LeftParen) (symbol s.LeftParen) left_paren_piece refl (one true (piece.closing s.RightParen) (symbol s.RightParen) right_paren_piece refl refl))
parameters_spelled (p ∷ ps) h =
    as_one (λ y. y.0 ∷ y.1) (λ y s. s) (λ y ts rest d. d)
    (led false (piece.opening s.LeftParen) (symbol s.LeftParen) left_paren_piece refl
    (ended_by (piece.closing s.RightParen) (symbol s.RightParen) right_paren_piece refl
    (some_spelled unlined.parameter DerivesParameter leaf.parameter p ps (parameters_all (p ∷ ps) h))))

answer_fits : (o : Option VarType) (t : VarType) → fits_answer o ≡ true → o ≡ Some t → fits_var_type t ≡ true
answer_fits o t h e = subst (λ (z : Option VarType). fits_answer z ≡ true) e h

answer_spelled : (o : Option VarType) → fits_answer o ≡ true → Spelled false (λ (y : Option VarType). Maybe DerivesAnswer y) (λ (y : Option VarType). option_map unlined.var_type y ≡ option_map unlined.var_type o) (printed.answer o)
answer_spelled o h =
    maybe_spelled unlined.var_type DerivesAnswer (λ x. piece.operator s.Arrow ∷ leaf.var_type x ∷ []) o
    (λ t e. led false (piece.operator s.Arrow) (symbol s.Arrow) (operator_piece s.Arrow) refl (loose (typed t (answer_fits o t h e))))

-- items
abbrev pub SpelledItem : tree.Item → Type 0
SpelledItem x = Spelled true DerivesItem (λ y. unlined.item y ≡ unlined.item x) (printed.item x)

signal_spelled : (n line : ℕ) (x : SignalItem) → fits_item (tree.signal line x) n ≡ true → SpelledItem (tree.signal line x)
signal_spelled n line x h =
    let parts = and_parts (is_name x.name) (fits_type x.value_type && fits_constant x.initial) h in
    let more = and_parts (fits_type x.value_type) (fits_constant x.initial) parts.1 in
    as_one (λ y. tree.signal y.0 (record { kind = x.kind; many = x.many; value_type = y.1.1.0; name = x.name; initial = y.1.1.1 })) (λ y s. rw (s.1.0, s.1.1) refl) (λ y ts rest d. d)
    (headed (signal_word x.kind)
    (moved (sym (append_assoc (piece.flag w.Many x.many) (leaf.type_form x.value_type.form ∷ piece.name x.name ∷ leaf.first_value x.initial) (piece.semicolon ∷ [])))
    (both (flag_spelled w.Many x.many)
    (both (loose (type_spelled x.value_type more.0)) (led false (piece.name x.name) (name x.name) (name_piece x.name parts.0) refl (closed (first_value_spelled x.initial more.1)))))))

clock_spelled : (n line : ℕ) (c : ClockItem) → fits_item (tree.clock line c) n ≡ true → SpelledItem (tree.clock line c)
clock_spelled n line c h =
    let parts = and_parts (is_name c.name) (is_number c.period.count && (is_number c.high.count && fits_span c.start)) h in
    let more = and_parts (is_number c.period.count) (is_number c.high.count && fits_span c.start) parts.1 in
    let last = and_parts (is_number c.high.count) (fits_span c.start) more.1 in
    as_one (λ y. tree.clock y.0 c) (λ y s. refl) (λ y ts rest d. d)
    (headed_name w.Clock c.name parts.0
    (led false (piece.word w.Period) (word w.Period) (word_piece w.Period) refl
    (both (time_spelled c.period more.0)
    (led false (piece.word w.High) (word w.High) (word_piece w.High) refl
    (both (time_spelled c.high last.0) (closed (start_spelled c.start last.1)))))))

function_spelled : (n line : ℕ) (f : tree.FunctionItem) → fits_item (tree.function line f) n ≡ true → SpelledItem (tree.function line f)
function_spelled n line f h =
    let parts = and_parts (is_name f.name && fits_parameters f.parameters) (fits_answer f.answer && within n (fits_block f.body)) h in
    let first = and_parts (is_name f.name) (fits_parameters f.parameters) parts.0 in
    let last = and_parts (fits_answer f.answer) (within n (fits_block f.body)) parts.1 in
    let (m, inner) = opened n (fits_block f.body) last.1 in
    as_one (λ y. tree.function y.0 (record { name = f.name; parameters = y.1.0; answer = y.1.1.0; body = y.1.1.1 })) (λ y s. rw (s.0, s.1.0, s.1.1) refl) (λ y ts rest d. d)
    (headed_name w.Func f.name first.0
    (moved (sym (append_assoc (piece.bracketed (piece.separated leaf.parameter f.parameters)) (printed.answer f.answer) (piece.braced (printed.statements f.body))))
    (both (parameters_spelled f.parameters first.1) (both (answer_spelled f.answer last.0) (braced (block_spelled m f.body inner))))))

process_spelled : (n line : ℕ) (p : tree.ProcessItem) → fits_item (tree.process line p) n ≡ true → SpelledItem (tree.process line p)
process_spelled n line p h =
    let parts = and_parts (is_name p.name) (fits_events n p.sensitive && within n (fits_block p.body)) h in
    let last = and_parts (fits_events n p.sensitive) (within n (fits_block p.body)) parts.1 in
    let (m, inner) = opened n (fits_block p.body) last.1 in
    as_one (λ y. tree.process y.0 (record { kind = p.kind; name = p.name; sensitive = y.1.0; dont_initialize = p.dont_initialize; body = y.1.1.1 })) (λ y s. rw (s.0, s.1.1) refl) (λ y ts rest d. d)
    (headed_name (process_word p.kind) p.name parts.0
    (moved (sym (append_assoc (printed.sensitive p.sensitive) (piece.flag w.DontInitialize p.dont_initialize) (piece.braced (printed.statements p.body))))
    (both (sensitive_spelled n p.sensitive last.0) (both (flag_spelled w.DontInitialize p.dont_initialize) (braced (block_spelled m p.body inner))))))

pub item_spelled : (n : ℕ) (x : tree.Item) → fits_item x n ≡ true → SpelledItem x
item_spelled n (tree.signal line x) h = signal_spelled n line x h
item_spelled n (tree.resolved line x) h =
    as_one (λ y. tree.resolved y.0 x) (λ y s. refl) (λ y ts rest d. d) (headed w.Resolved (closed (name_spelled false x h)))
item_spelled n (tree.clock line c) h = clock_spelled n line c h
item_spelled n (tree.fifo line t x size) h =
    let parts = and_parts (is_name x) (fits_type t && fits_number size) h in
    let more = and_parts (fits_type t) (fits_number size) parts.1 in
    as_one (λ y. tree.fifo y.0 y.1.0 x size) (λ y s. rw s.0 refl) (λ y ts rest d. d)
    (headed w.Fifo (both (loose (type_spelled t more.0)) (led false (piece.name x) (name x) (name_piece x parts.0) refl (closed (fifo_size_spelled size more.1)))))
item_spelled n (tree.plain line kind x) h =
    as_one (λ y. tree.plain y.0 kind x) (λ y s. refl) (λ y ts rest d. d) (headed (plain_word kind) (closed (name_spelled false x h)))
item_spelled n (tree.semaphore line x c) h =
    let parts = and_parts (is_name x) (fits_constant_form c.form) h in
    as_one (λ y. tree.semaphore y.0 x y.1) (λ y s. ap (tree.semaphore 0 x) s) (λ y ts rest d. d) (headed_name w.Semaphore x parts.0 (closed (loose (constant_spelled c parts.1))))
item_spelled n (tree.memory line x size) h =
    let parts = and_parts (is_name x) (is_number size) h in
    as_one (λ y. tree.memory y.0 x size) (λ y s. refl) (λ y ts rest d. d)
    (headed_name w.Memory x parts.0
    (led false (piece.opening s.LeftBracket) (symbol s.LeftBracket) left_bracket_piece refl
    (led true (piece.number size) (number size) (number_piece size parts.1) refl
    (closed (one false (piece.closing s.RightBracket) (symbol s.RightBracket) right_bracket_piece refl refl)))))
item_spelled n (tree.variable line t x c) h =
    let parts = and_parts (is_name x) (fits_var_type t && fits_constant c) h in
    let more = and_parts (fits_var_type t) (fits_constant c) parts.1 in
    as_one (λ y. tree.variable y.0 y.1.0 x y.1.1) (λ y s. rw (s.0, s.1) refl) (λ y ts rest d. d)
    (headed w.Var (both (loose (typed t more.0)) (led false (piece.name x) (name x) (name_piece x parts.0) refl (closed (first_value_spelled c more.1)))))
item_spelled n (tree.port line i x size) h =
    let parts = and_parts (is_name x) (fits_interface i && fits_size size) h in
    let more = and_parts (fits_interface i) (fits_size size) parts.1 in
    as_one (λ y. tree.port y.0.0 y.0.1 x size) (λ y s. rw s.0 refl) (λ y ts rest d. d)
    (moved (sym (append_assoc (leaf.interface i) (piece.name x ∷ piece.maybe leaf.port_size size) (piece.semicolon ∷ [])))
    (both (interface_at i more.0) (led false (piece.name x) (name x) (name_piece x parts.0) refl (closed (size_spelled size more.1)))))
item_spelled n (tree.export line i x) h =
    let parts = and_parts (is_name x) (fits_interface i) h in
    as_one (λ y. tree.export y.0 y.1.0 x) (λ y s. rw s.0 refl) (λ y ts rest d. d)
    (headed w.Export (both (loose (interface_spelled i parts.1)) (closed (name_spelled false x parts.0))))
item_spelled n (tree.initiator line x role) h =
    let parts = and_parts (is_name x) (fits_initiator role) h in
    as_one (λ y. tree.initiator y.0 x role) (λ y s. refl) (λ y ts rest d. d) (headed_name w.Initiator x parts.0 (closed (initiator_spelled role parts.1)))
item_spelled n (tree.target line x role) h =
    let parts = and_parts (is_name x) (fits_socket role) h in
    as_one (λ y. tree.target y.0 x role) (λ y s. refl) (λ y ts rest d. d) (headed_name w.Target x parts.0 (closed (target_spelled role parts.1)))
item_spelled n (tree.instance line kind x) h =
    let parts = and_parts (is_name kind) (is_name x) h in
    as_one (λ y. tree.instance y.0 kind x) (λ y s. refl) (λ y ts rest d. d) (headed_name w.Inst kind parts.0 (closed (name_spelled false x parts.1)))
item_spelled n (tree.bind line left right) h =
    let parts = and_parts (fits_end left) (fits_end right) h in
    as_one (λ y. tree.bind y.0 y.1.0 y.1.1) (λ y s. rw (s.0, s.1) refl) (λ y ts rest d. d)
    (headed w.Bind
    (moved (sym (append_assoc (leaf.binding_end left) (piece.word w.To ∷ leaf.binding_end right) (piece.semicolon ∷ [])))
    (both (loose (end_spelled left parts.0)) (led false (piece.word w.To) (word w.To) (word_piece w.To) refl (closed (loose (end_spelled right parts.1)))))))
item_spelled n (tree.function line f) h = function_spelled n line f h
item_spelled n (tree.process line p) h = process_spelled n line p h

items_all : (n : ℕ) (xs : List tree.Item) → fits_items xs n ≡ true → All unlined.item DerivesItem printed.item xs
items_all n [] h = tt
items_all n (x ∷ xs) h = let parts = and_parts (fits_item x n) (fits_items xs n) h in (item_spelled n x parts.0, items_all n xs parts.1)

-- modules
module_spelled : (n : ℕ) (m : tree.Module) → is_name m.name ≡ true → within n (fits_items m.items) ≡ true → Spelled true DerivesModule (λ y. unlined.module_ y ≡ unlined.module_ m) (printed.module_ m)
module_spelled n m h k =
    let (j, inner) = opened n (fits_items m.items) k in
    as_one (λ y. record { line = y.0; name = m.name; items = y.1 }) (λ y s. rw s refl) (λ y ts rest d. d)
    (headed_name w.Module m.name h (braced (each_spelled unlined.item DerivesItem printed.item m.items (items_all j m.items inner))))

modules_all : (n : ℕ) (ms : List tree.Module) → fits_modules ms n ≡ true → All unlined.module_ DerivesModule printed.module_ ms
modules_all n [] h = tt
modules_all n (m ∷ ms) h =
    let parts = and_parts (is_name m.name && within n (fits_items m.items)) (fits_modules ms n) h in
    let more = and_parts (is_name m.name) (within n (fits_items m.items)) parts.0 in
    (module_spelled n m more.0 more.1, modules_all n ms parts.1)

top_spelled : (t : Top) → is_name t.module ≡ true → is_name t.name ≡ true → Spelled true DerivesTop (λ y. unlined.top y ≡ unlined.top t) (printed.top t)
top_spelled t h k =
    as_one (λ y. record { line = y.0; «module» = t.module; name = t.name }) (λ y s. refl) (λ y ts rest d. d) (headed_name w.Top t.module h (closed (name_spelled false t.name k)))

-- the modules and the instance at the top
model_spelled : (m : tree.Model) → is_sound m ≡ true → Spelled false DerivesModel (λ y. unlined.model y ≡ unlined.model m) (printed.model m)
model_spelled m h =
    let parts = and_parts (fits_modules m.modules bracket_limit) (is_name m.top.module && is_name m.top.name) h in
    let last = and_parts (is_name m.top.module) (is_name m.top.name) parts.1 in
    as_one (λ y. record { modules = y.0; top = y.1 }) (λ y s. rw (s.0, s.1) refl) (λ y ts rest d. d)
    (both (each_spelled unlined.module_ DerivesModule printed.module_ m.modules (modules_all bracket_limit m.modules parts.0)) (loose (top_spelled m.top last.0 last.1)))

-- what a text says of its language
resolution_spelled : (r : ResolutionLine) → is_number r.span.count ≡ true → Spelled false DerivesResolution (λ y. unlined.resolution y ≡ unlined.resolution r) (printed.resolution r)
resolution_spelled r h = as_one (λ y. record { line = y.0; span = r.span }) (λ y s. refl) (λ y ts rest d. d) (loose (headed w.Resolution (closed (time_spelled r.span h))))

resolution_number : (o : Option ResolutionLine) (r : ResolutionLine) → fits_resolution o ≡ true → o ≡ Some r → is_number r.span.count ≡ true
resolution_number o r h e = subst (λ (z : Option ResolutionLine). fits_resolution z ≡ true) e h

head_spelled : (x : Head) → fits_head x ≡ true → Spelled false DerivesHead (λ y. unlined.head y ≡ unlined.head x) (printed.first_lines x)
head_spelled head.First h = as_one (λ y. head.First) (λ y s. refl) (λ y ts rest d. d) of_nothing
head_spelled (head.Second r) h =
    as_one (λ y. head.Second y) (λ y s. ap head.Second s) (λ y ts rest d. d)
    (led false (piece.word w.Language) (word w.Language) (word_piece w.Language) refl
    (led false (piece.number 2) (number 2) (number_piece 2 refl) refl
    (led false piece.semicolon (symbol s.Semicolon) semicolon_piece refl
    (maybe_spelled unlined.resolution DerivesResolution printed.resolution r (λ x e. resolution_spelled x (resolution_number r x h e))))))

-- a whole text
pub source_spelled : (x : tree.Source) → fits_head x.head ≡ true → is_sound x.model ≡ true → Spelled false DerivesSource (λ y. unlined.source y ≡ unlined.source x) (printed.printed x)
source_spelled x k h =
    as_one (λ y. record { head = y.0; model = y.1 }) (λ y s. rw (s.0, s.1) refl) (λ y ts rest d. d) (both (head_spelled x.head k) (model_spelled x.model h))
