-- That a whole text of limited tokens keeps the limits of the language.
use Rattle.std.proofs.Common.{◌≡◌, ℕ, suc, ◌≤◌, Bool, true, false, ◌&&◌, List, [], ◌∷◌, Option, refl, arith}
use Rattle.std.proofs.lemmas.Bool.{and_from}
use Rattle.model_tree.specs.declared.vocabulary.Word.{Word}
use Rattle.model_tree.specs.declared.vocabulary.Word.TheVariants as w
use Rattle.model_tree.specs.declared.vocabulary.Symbol.TheVariants as s
use Rattle.model_tree.specs.declared.types.Constant.{Constant}
use Rattle.model_tree.specs.declared.types.ConstantForm.{ConstantForm}
use Rattle.model_tree.specs.declared.types.ConstantForm.TheVariants as constant
use Rattle.model_tree.specs.declared.types.Span.{Span}
use Rattle.model_tree.specs.declared.types.Interface.{Interface}
use Rattle.model_tree.specs.declared.types.Interface.TheVariants as interface
use Rattle.model_tree.specs.declared.types.BoundRule.{BoundRule}
use Rattle.model_tree.specs.declared.types.BoundRule.TheVariants as bound
use Rattle.model_tree.specs.declared.types.PortSize.{PortSize}
use Rattle.model_tree.specs.declared.types.Parameter.{Parameter}
use Rattle.model_tree.specs.declared.types.End.{End}
use Rattle.model_tree.specs.declared.types.VarType.{VarType}
use Rattle.model_tree.specs.declared.items.InitiatorRole.{InitiatorRole}
use Rattle.model_tree.specs.declared.items.InitiatorRole.TheVariants as initiator
use Rattle.model_tree.specs.declared.items.TargetRole.{TargetRole}
use Rattle.model_tree.specs.declared.items.TargetRole.TheVariants as target
use Rattle.model_tree.specs.declared.items.Top.{Top}
use Rattle.model_tree.specs.Leaves.{is_name}
use Rattle.model_tree.specs.Limits.{is_number, within, option_name, fits_events, fits_type, fits_var_type, fits_interface, fits_constant_form, fits_constant, fits_span, fits_number, fits_size, fits_initiator, fits_socket, fits_end, fits_parameters, fits_answer, fits_block, fits_item, fits_items, fits_modules, bracket_limit, is_sound}
use Rattle.model_tree.specs.Tree as tree
use Rattle.model_lexer.specs.Tokens.{Token, Tokens, word, symbol, is_limited, are_limited}
use Rattle.model_lexer.specs.Rules.{Rule, At, Takes, Each, Maybe}
use Rattle.model_lexer.specs.Items.{DerivesConstantForm, DerivesConstant, DerivesFirstValue, DerivesTime, DerivesStart, DerivesFifoSize, DerivesInterface, DerivesBound, DerivesPortSize, DerivesHandler, DerivesInitiatorRole, DerivesTargetRole, DerivesEnd, DerivesMode, DerivesParameter, DerivesParameters, DerivesAnswer, DerivesItem, DerivesModule, DerivesTop, DerivesModel}
use Rattle.model_lexer.specs.Brackets.{in_block, in_item, in_items, in_modules, brackets}
use Rattle.model_lexer.proofs.Keeps.{Keeps, at, takes, nothing, ◌>>=◌, so, ends, written, braced, each, separated, maybe}
use Rattle.model_lexer.proofs.SoundStatements.{type_fits, var_type_at_fits, var_type_fits, member_fits, sensitive_fits, block_fits}

-- constants and times

constant_form_fits : (line : ℕ) (c : ConstantForm) → Keeps (DerivesConstantForm line c) (fits_constant_form c ≡ true)
constant_form_fits line (constant.Number n) = at
constant_form_fits line (constant.Negative n) = at >>= λ e. takes
constant_form_fits line (constant.Time n unit) = at >>= λ e. ends e
constant_form_fits line (constant.Logic value) = so at (λ e. refl)
constant_form_fits line (constant.Truth b) = so at (λ e. refl)

constant_fits : (c : Constant) → Keeps (DerivesConstant c) (fits_constant_form c.form ≡ true)
constant_fits c = constant_form_fits c.line c.form

first_value_fits : (o : Option Constant) → Keeps (Maybe DerivesFirstValue o) (fits_constant o ≡ true)
first_value_fits o = maybe DerivesFirstValue fits_constant refl o (λ c h. takes >>= λ e. constant_fits c)

time_fits : (t : Span) → Keeps (DerivesTime t) (is_number t.count ≡ true)
time_fits t = takes >>= λ e. ends e

start_fits : (o : Option Span) → Keeps (Maybe DerivesStart o) (fits_span o ≡ true)
start_fits o = maybe DerivesStart fits_span refl o (λ t h. takes >>= λ e. time_fits t)

fifo_size_fits : (o : Option ℕ) → Keeps (Maybe DerivesFifoSize o) (fits_number o ≡ true)
fifo_size_fits o = maybe DerivesFifoSize fits_number refl o (λ n h. takes >>= λ e. takes)

-- ports and sockets

interface_fits : (First : Token → Rule) (i : Interface) → ((t : Token) → Keeps (First t) (is_limited t ≡ true)) → Keeps (DerivesInterface First i) (fits_interface i ≡ true)
interface_fits First (interface.In t) first = first _ >>= λ e. type_fits t
interface_fits First (interface.Out t) first = first _ >>= λ e. type_fits t
interface_fits First (interface.FifoIn t) first = first _ >>= λ e. type_fits t
interface_fits First (interface.FifoOut t) first = first _ >>= λ e. type_fits t
interface_fits First interface.Mutex first = first _
interface_fits First interface.Semaphore first = first _

bound_kept : (r : BoundRule) → Keeps (DerivesBound r) (Unit {0})
bound_kept bound.One = nothing
bound_kept bound.Zero = ends tt
bound_kept bound.All = ends tt

size_fits : (o : Option PortSize) → Keeps (Maybe DerivesPortSize o) (fits_size o ≡ true)
size_fits o = maybe DerivesPortSize fits_size refl o (λ p h. takes >>= λ e. takes >>= λ f. bound_kept p.rule >>= λ g. ends f)

handler_fits : (v : Word) (o : Option (List ℕ)) → Keeps (Maybe (DerivesHandler v) o) (option_name o ≡ true)
handler_fits v o = maybe (DerivesHandler v) option_name refl o (λ x h. takes >>= λ e. takes)

initiator_fits : (r : InitiatorRole) → Keeps (DerivesInitiatorRole r) (fits_initiator r ≡ true)
initiator_fits initiator.Pass = ends refl
initiator_fits (initiator.Own backward) = handler_fits w.Bw backward

socket_fits : (r : TargetRole) → Keeps (DerivesTargetRole r) (fits_socket r ≡ true)
socket_fits target.Pass = ends refl
socket_fits (target.Own blocking forward) = handler_fits w.Bt blocking >>= λ e. so (handler_fits w.Fw forward) (λ f. and_from (option_name blocking) (option_name forward) e f)

end_fits : (e : End) → Keeps (DerivesEnd e) (fits_end e ≡ true)
end_fits e = at >>= λ f. so (member_fits e.member) (λ g. and_from (is_name e.name) (option_name e.member) f g)

-- functions

mode_fits : (b : Bool) (line : ℕ) (t : VarType) → Keeps (DerivesMode b line t) (fits_var_type t ≡ true)
mode_fits true line t = at >>= λ e. var_type_fits t
mode_fits false line t = var_type_at_fits line t

-- a parameter's name and type
parameter_fits : (p : Parameter) → Keeps (DerivesParameter p) ((is_name p.name && fits_var_type p.var_type) ≡ true)
parameter_fits p = mode_fits p.inout p.line p.var_type >>= λ f. so takes (λ e. and_from (is_name p.name) (fits_var_type p.var_type) e f)

parameters_fit : (ps : List Parameter) → Keeps (DerivesParameters ps) (fits_parameters ps ≡ true)
parameters_fit [] = takes >>= λ e. ends refl
parameters_fit (p ∷ ps) =
    takes >>= λ e. separated (symbol s.Comma) DerivesParameter (λ x. is_name x.name && fits_var_type x.var_type) fits_parameters (λ xs. Unit {0}) refl (λ x xs. refl) (λ x xs h. (parameter_fits x, tt)) (p ∷ ps) tt >>= λ f. ends f

answer_fits : (o : Option VarType) → Keeps (Maybe DerivesAnswer o) (fits_answer o ≡ true)
answer_fits o = maybe DerivesAnswer fits_answer refl o (λ t h. takes >>= λ e. var_type_fits t)

-- items

item_fits : (i : tree.Item) (n : ℕ) → in_item i ≤ n → Keeps (DerivesItem i) (fits_item i n ≡ true)
item_fits (tree.signal line i) n few =
    at >>= λ e. written (word w.Many) i.many >>= λ e1. type_fits i.value_type >>= λ f. takes >>= λ g. first_value_fits i.initial >>= λ h. ends (and_from (is_name i.name) _ g (and_from (fits_type i.value_type) (fits_constant i.initial) f h))
item_fits (tree.resolved line x) n few = at >>= λ e. takes >>= λ f. ends f
item_fits (tree.clock line c) n few =
    at >>= λ e. takes >>= λ f. takes >>= λ e1. time_fits c.period >>= λ g. takes >>= λ e2. time_fits c.high >>= λ h. start_fits c.start >>= λ i. ends (and_from (is_name c.name) _ f (and_from (is_number c.period.count) _ g (and_from (is_number c.high.count) (fits_span c.start) h i)))
item_fits (tree.fifo line t x size) n few =
    at >>= λ e. type_fits t >>= λ f. takes >>= λ g. fifo_size_fits size >>= λ h. ends (and_from (is_name x) _ g (and_from (fits_type t) (fits_number size) f h))
item_fits (tree.plain line k x) n few = at >>= λ e. takes >>= λ f. ends f
item_fits (tree.semaphore line x c) n few = at >>= λ e. takes >>= λ f. constant_fits c >>= λ g. ends (and_from (is_name x) (fits_constant_form c.form) f g)
item_fits (tree.memory line x size) n few =
    at >>= λ e. takes >>= λ f. takes >>= λ e1. takes >>= λ g. takes >>= λ e2. ends (and_from (is_name x) (is_number size) f g)
item_fits (tree.variable line t x c) n few =
    at >>= λ e. var_type_fits t >>= λ f. takes >>= λ g. first_value_fits c >>= λ h. ends (and_from (is_name x) _ g (and_from (fits_var_type t) (fits_constant c) f h))
item_fits (tree.port line i x size) n few =
    interface_fits (At line) i (λ t. at) >>= λ f. takes >>= λ g. size_fits size >>= λ h. ends (and_from (is_name x) _ g (and_from (fits_interface i) (fits_size size) f h))
item_fits (tree.export line i x) n few = at >>= λ e. interface_fits Takes i (λ t. takes) >>= λ f. takes >>= λ g. ends (and_from (is_name x) (fits_interface i) g f)
item_fits (tree.initiator line x role) n few = at >>= λ e. takes >>= λ f. initiator_fits role >>= λ g. ends (and_from (is_name x) (fits_initiator role) f g)
item_fits (tree.target line x role) n few = at >>= λ e. takes >>= λ f. socket_fits role >>= λ g. ends (and_from (is_name x) (fits_socket role) f g)
item_fits (tree.instance line kind x) n few = at >>= λ e. takes >>= λ f. takes >>= λ g. ends (and_from (is_name kind) (is_name x) f g)
item_fits (tree.bind line left right) n few = at >>= λ e. end_fits left >>= λ f. takes >>= λ e1. end_fits right >>= λ g. ends (and_from (fits_end left) (fits_end right) f g)
item_fits (tree.function line f) n few =
    at >>= λ e. takes >>= λ g. parameters_fit f.parameters >>= λ h. answer_fits f.answer >>= λ i. so (braced n (in_block f.body) (fits_block f.body) few (λ k less. block_fits f.body k less)) (λ u. and_from (is_name f.name && fits_parameters f.parameters) _ (and_from (is_name f.name) (fits_parameters f.parameters) g h) (and_from (fits_answer f.answer) (within n (fits_block f.body)) i u))
item_fits (tree.process line p) n few =
    at >>= λ e. takes >>= λ f. sensitive_fits p.sensitive n (omega (arith, few)) >>= λ g. written (word w.DontInitialize) p.dont_initialize >>= λ e1. so (braced n (in_block p.body) (fits_block p.body) (omega (arith, few)) (λ k less. block_fits p.body k less)) (λ u. and_from (is_name p.name) _ f (and_from (fits_events n p.sensitive) (within n (fits_block p.body)) g u))

items_fit : (is : List tree.Item) (n : ℕ) → in_items is ≤ n → Keeps (Each DerivesItem is) (fits_items is n ≡ true)
items_fit is n few =
    each DerivesItem (λ i. fits_item i n) (λ xs. fits_items xs n) (λ xs. in_items xs ≤ n) refl (λ x xs. refl) (λ x xs h. (item_fits x n (omega (arith, h)), omega (arith, h))) is few

-- a module's name and items, of which the brace is one bracket
module_fits : (m : tree.Module) (n : ℕ) → suc (in_items m.items) ≤ n → Keeps (DerivesModule m) ((is_name m.name && within n (fits_items m.items)) ≡ true)
module_fits m n few =
    at >>= λ e. takes >>= λ f. so (braced n (in_items m.items) (fits_items m.items) few (λ k less. items_fit m.items k less)) (λ g. and_from (is_name m.name) (within n (fits_items m.items)) f g)

modules_fit : (ms : List tree.Module) (n : ℕ) → in_modules ms ≤ n → Keeps (Each DerivesModule ms) (fits_modules ms n ≡ true)
modules_fit ms n few =
    each DerivesModule (λ m. is_name m.name && within n (fits_items m.items)) (λ xs. fits_modules xs n) (λ xs. in_modules xs ≤ n) refl (λ x xs. refl) (λ x xs h. (module_fits x n (omega (arith, h)), omega (arith, h))) ms few

top_fits : (t : Top) → Keeps (DerivesTop t) ((is_name t.module && is_name t.name) ≡ true)
top_fits t = at >>= λ e. takes >>= λ f. takes >>= λ g. ends (and_from (is_name t.module) (is_name t.name) f g)

-- the whole text of limited tokens, of which no more brackets are open anywhere than may be
pub model_sound : (m : tree.Model) (ts : Tokens) → DerivesModel m ts [] → are_limited ts ≡ true → brackets m ≤ bracket_limit → is_sound m ≡ true
model_sound m ts h l few =
    let whole : Keeps (DerivesModel m) (is_sound m ≡ true) = (modules_fit m.modules bracket_limit few >>= λ f. so (top_fits m.top) (λ g. and_from (fits_modules m.modules bracket_limit) _ f g)) in
    (whole.kept ts [] h l).0
