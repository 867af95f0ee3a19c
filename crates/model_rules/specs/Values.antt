-- Values: that types fit, that widths and places are in range, and that times can be counted. Each of these rules answers the
-- function or process around a site that breaks it, or else the item. Where the type of a part is not known, because the
-- part breaks a rule of its own, nothing is asked of it.
use Rattle.std.specs.Prelude.{ℕ, ◌&&◌, ◌||◌, Bool, true, false, not, nat_lt, List, [], ◌∷◌, is_none, is_some, option_map, option_and_then, Option, Some, None}
use Rattle.flat_design.specs.ModelTree.Tree as tree
use Rattle.flat_design.specs.ModelTree.Parts as made
use Rattle.flat_design.specs.ModelTree.Parts.{Role, Purpose, parts_of, joined}
use Rattle.flat_design.specs.ModelTree.declared.types.TypeForm.{TypeForm}
use Rattle.flat_design.specs.ModelTree.declared.types.TypeForm.TheVariants as form
use Rattle.flat_design.specs.ModelTree.declared.types.ConstantForm.{ConstantForm}
use Rattle.flat_design.specs.ModelTree.declared.types.ConstantForm.TheVariants as constant
use Rattle.flat_design.specs.ModelTree.declared.types.Constant.{Constant}
use Rattle.flat_design.specs.ModelTree.declared.types.Parameter.{Parameter}
use Rattle.flat_design.specs.ModelTree.declared.types.Span.{Span}
use Rattle.flat_design.specs.declared.value_types.ValueType.{ValueType}
use Rattle.flat_design.specs.declared.value_types.ValueType.TheVariants as type
use Rattle.model_rules.specs.Meanings.{is_width, signal_type, variable_type}
use Rattle.model_rules.specs.Scopes.{Scope, meaning_of, function_named}
use Rattle.model_rules.specs.Operators.{seen_as, is_integer, is_bool, is_time, is_process, is_payload, operands, unary_type, conversion_type, becomes_vector, concat_type, digit_type, digit_count, is_within}
use Rattle.model_rules.specs.Types.{places, is_time_literal, is_array, type_seen, seen_of, type_of}
use Rattle.model_rules.specs.Targets.{misfits, differ, constant_type, target_type, written_to, put_into, taken_from, variable_named, result_type, gives_nothing}
use Rattle.model_rules.specs.declared.meanings.ExpressionType.{ExpressionType}
use Rattle.model_rules.specs.declared.meanings.Meaning.{Meaning}
use Rattle.model_rules.specs.declared.meanings.Seen.{Seen}
use Rattle.model_rules.specs.Sites as part
use Rattle.model_rules.specs.Sites.{Part, Site}
use Rattle.model_rules.specs.Names.{name_if}

-- a type that is known and fails a test; operands that are known and have no type together
abbrev pub fails : (ExpressionType → Bool) → Option ExpressionType → Bool
fails test None = false
fails test (Some e) = not (test e)

abbrev pub refuses : {A B : Type 0} → (A → Option B) → Option A → Bool
refuses f None = false
refuses f (Some x) = is_none (f x)

abbrev pub refuse : {A B C : Type 0} → (A → B → Option C) → Option A → Option B → Bool
refuse f None y = false
refuse f (Some x) None = false
refuse f (Some x) (Some y) = is_none (f x y)

abbrev pub option_type : Scope → Option tree.Expression → Option ExpressionType
option_type s None = None
option_type s (Some e) = type_of s e

-- types fit

-- an index is an integer, and what it is taken of has elements or digits
abbrev pub element_differs : Seen → Option ExpressionType → Bool
element_differs of None = false
element_differs of (Some index) = (is_array of && not (is_integer index)) || (is_some (type_seen of) && (refuses digit_type (type_seen of) || not (is_integer index)))

abbrev pub expression_differs : Scope → tree.Expression → Bool
expression_differs s (tree.number line n) = false
expression_differs s (tree.time line n unit) = false
expression_differs s (tree.logic line digits) = false
expression_differs s (tree.truth line b) = false
expression_differs s (tree.now line) = false
expression_differs s (tree.myself line) = false
expression_differs s (tree.constant line word) = false
expression_differs s (tree.paren line e) = false
expression_differs s (tree.convert line c e) = refuses (conversion_type c) (type_of s e)
expression_differs s (tree.to_vector line width e) = fails (becomes_vector width) (type_of s e)
expression_differs s (tree.concat line upper lower) = refuse concat_type (type_of s upper) (type_of s lower)
expression_differs s (tree.named line name) = false
expression_differs s (tree.placed line name n) = false
expression_differs s (tree.placed_by line name e) = false
expression_differs s (tree.member e name) = false
expression_differs s (tree.element e index) = element_differs (seen_of s e) (type_of s index)
expression_differs s (tree.slice e high low) = refuses digit_count (type_of s e)
expression_differs s (tree.unary line o e) = refuses (unary_type o) (type_of s e)
expression_differs s (tree.binary o left right) = refuse (operands o) (type_of s left) (type_of s right)

-- arguments that are passed by value go into their parameters
abbrev pub argument_differs : Scope → Bool → Parameter → tree.Expression → Bool
argument_differs s true p e = false
argument_differs s false p e = misfits (variable_type p.var_type) (type_of s e)

abbrev pub arguments_differ : Scope → List Parameter → List tree.Expression → Bool
arguments_differ s [] es = false
arguments_differ s (p ∷ ps) [] = false
arguments_differ s (p ∷ ps) (e ∷ es) = argument_differs s p.inout p e || arguments_differ s ps es

abbrev pub parameters_of : Option tree.FunctionItem → List Parameter
parameters_of None = []
parameters_of (Some f) = f.parameters

abbrev pub called_parameters : Scope → List ℕ → List Parameter
called_parameters s name = parameters_of (function_named s.items name)

abbrev pub operation_differs : Scope → tree.Operation → Bool
operation_differs s (tree.call name arguments) = arguments_differ s (called_parameters s name) arguments
operation_differs s (tree.read c) = false
operation_differs s (tree.nb_read c name) = misfits (variable_named s name) (option_map seen_as (taken_from s c))
operation_differs s (tree.nb_write c e) = misfits (put_into s c) (type_of s e)
operation_differs s (tree.trylock c) = false
operation_differs s (tree.unlock c) = false
operation_differs s (tree.sem_trywait c) = false
operation_differs s (tree.nb_transport socket p phase delay) =
    differ (Some type.Payload) (variable_named s p) || differ (Some (type.Int 32)) (variable_named s phase) || differ (Some type.Time) (variable_named s delay)

-- a time, where one is written
abbrev pub time_differs : Scope → Option tree.Expression → Bool
time_differs s e = fails is_time (option_type s e)

abbrev pub waiting_differs : Scope → tree.Waiting → Bool
waiting_differs s tree.static = false
waiting_differs s tree.delta = false
waiting_differs s (tree.for_ e) = time_differs s (Some e)
waiting_differs s (tree.one e t) = time_differs s t
waiting_differs s (tree.any es t) = time_differs s t
waiting_differs s (tree.all es t) = time_differs s t

abbrev pub notification_differs : Scope → tree.Notification → Bool
notification_differs s tree.immediate = false
notification_differs s tree.next_delta = false
notification_differs s (tree.after e) = time_differs s (Some e)

-- what is printed is no handle
abbrev pub is_printed : ExpressionType → Bool
is_printed e = not (is_process e) && not (is_payload e)

abbrev pub option_variable : Scope → Option (List ℕ) → Option ValueType
option_variable s None = None
option_variable s (Some name) = variable_named s name

-- a variable that an action names, by what it is to hold
abbrev pub role_differs : Scope → Role → List ℕ → Bool
role_differs s made.event name = false
role_differs s made.payload name = false
role_differs s made.memory name = false
role_differs s made.initiator name = false
role_differs s made.keeper name = false
role_differs s made.carried name = differ (Some type.Payload) (variable_named s name)
role_differs s made.delay name = differ (Some type.Time) (variable_named s name)
role_differs s made.exception name = false

-- an expression of an action, by what it is there for
abbrev pub purpose_differs : Scope → Purpose → Option tree.Expression → Bool
purpose_differs s (made.value c) e = misfits (written_to s c) (option_type s e)
purpose_differs s made.shown e = fails is_printed (option_type s e)
purpose_differs s made.time e = time_differs s e
purpose_differs s made.count e = fails is_integer (option_type s e)
purpose_differs s made.answer e = misfits (option_and_then variable_type s.answer) (option_type s e)

abbrev pub part_differs : Scope → made.Part → Bool
part_differs s (made.name r name) = role_differs s r name
part_differs s (made.next_name r name) = role_differs s r name
part_differs s (made.reaching_name r name all) = role_differs s r name
part_differs s (made.text x) = false
part_differs s (made.term u e) = purpose_differs s u (Some e)
part_differs s (made.term_if u e) = purpose_differs s u e
part_differs s (made.next_term u e) = purpose_differs s u (Some e)
part_differs s (made.next_term_if u e) = purpose_differs s u e
part_differs s (made.channel u c) = false
part_differs s (made.waiting w) = waiting_differs s w
part_differs s (made.notification n) = notification_differs s n
part_differs s (made.instance x) = differ (Some type.Process) (option_variable s x.handle) || arguments_differ s (called_parameters s x.function) x.arguments
part_differs s (made.process w) = false
part_differs s (made.reaching_process w all) = false

abbrev pub action_differs : Scope → tree.Action → Bool
action_differs s a = joined (part_differs s) (λ x y. x || y) false (parts_of a)

-- the variable before an operation takes what it gives
abbrev pub result_differs : Scope → Option (List ℕ) → tree.Operation → Bool
result_differs s None o = false
result_differs s (Some name) o = gives_nothing s o || misfits (variable_named s name) (result_type s o)

abbrev pub statement_differs : Scope → tree.Statement → Bool
statement_differs s (tree.var line t name e) = misfits (variable_type t) (option_type s e)
statement_differs s (tree.assign line target e) = fails is_integer (option_type s target.index) || misfits (target_type s target) (type_of s e)
statement_differs s (tree.operate line name at o) = result_differs s name o
statement_differs s (tree.act line a) = action_differs s a
statement_differs s (tree.if_ line e body other) = fails is_bool (type_of s e)
statement_differs s (tree.while_ line e body) = fails is_bool (type_of s e)
statement_differs s (tree.guard line body undo) = false
statement_differs s (tree.try_ line body handlers) = false

-- first values go into their items
abbrev pub initial_type : Option Constant → Option ExpressionType
initial_type None = None
initial_type (Some c) = constant_type c.form

abbrev pub item_differs : tree.Item → Bool
item_differs (tree.signal line x) = misfits (signal_type x.value_type) (initial_type x.initial)
item_differs (tree.resolved line name) = false
item_differs (tree.clock line c) = false
item_differs (tree.fifo line t name size) = false
item_differs (tree.plain line kind name) = false
item_differs (tree.semaphore line name c) = fails is_integer (constant_type c.form)
item_differs (tree.memory line name size) = false
item_differs (tree.variable line t name c) = misfits (variable_type t) (initial_type c)
item_differs (tree.port line i name size) = false
item_differs (tree.export line i name) = false
item_differs (tree.initiator line name role) = false
item_differs (tree.target line name role) = false
item_differs (tree.instance line kind name) = false
item_differs (tree.bind line left right) = false
item_differs (tree.function line f) = false
item_differs (tree.process line p) = false

-- a computed place is an integer
abbrev pub place_differs : Scope → tree.Place → Bool
place_differs s tree.first = false
place_differs s (tree.place_number n) = false
place_differs s (tree.computed e) = fails is_integer (type_of s e)

abbrev pub differs_in : Scope → Part → Bool
differs_in s (part.of_module before m) = false
differs_in s (part.of_top top) = false
differs_in s (part.of_item before i) = item_differs i
differs_in s (part.of_type t) = false
differs_in s (part.of_constant c) = false
differs_in s (part.of_end e) = false
differs_in s (part.of_parameter p) = false
differs_in s (part.of_event static e) = false
differs_in s (part.of_channel need c) = place_differs s c.place
differs_in s (part.of_member indexed e name) = false
differs_in s (part.of_expression e) = expression_differs s e
differs_in s (part.of_statement x) = statement_differs s x
differs_in s (part.of_operation o) = operation_differs s o
differs_in s (part.of_who w) = false

abbrev pub type_differs : Site → Option (List ℕ)
type_differs x = name_if (differs_in x.scope x.part) x.scope.around

-- widths are 1 to 64, and the bounds of slices and the places that are written are in range

abbrev pub is_wide : TypeForm → Bool
is_wide form.Bool = false
is_wide form.Logic = false
is_wide (form.Int width) = not (is_width width)
is_wide (form.Uint width) = not (is_width width)
is_wide (form.Vector width) = not (is_width width)

abbrev pub is_beyond : ℕ → ℕ → Option ℕ → Bool
is_beyond high low None = false
is_beyond high low (Some count) = not (is_within high low count)

abbrev pub wide_expression : Scope → tree.Expression → Bool
wide_expression s (tree.number line n) = false
wide_expression s (tree.time line n unit) = false
wide_expression s (tree.logic line digits) = false
wide_expression s (tree.truth line b) = false
wide_expression s (tree.now line) = false
wide_expression s (tree.myself line) = false
wide_expression s (tree.constant line word) = false
wide_expression s (tree.paren line e) = false
wide_expression s (tree.convert line c e) = false
wide_expression s (tree.to_vector line width e) = not (is_width width)
wide_expression s (tree.concat line upper lower) = false
wide_expression s (tree.named line name) = false
wide_expression s (tree.placed line name n) = false
wide_expression s (tree.placed_by line name e) = false
wide_expression s (tree.member e name) = false
wide_expression s (tree.element e index) = false
wide_expression s (tree.slice e high low) = is_beyond high low (option_and_then digit_count (type_of s e))
wide_expression s (tree.unary line o e) = false
wide_expression s (tree.binary o left right) = false

abbrev pub is_past : ℕ → Option ℕ → Bool
is_past n None = false
is_past n (Some size) = not (nat_lt n size)

abbrev pub wide_place : tree.Place → Option Meaning → Bool
wide_place tree.first m = false
wide_place (tree.place_number n) m = is_past n (option_and_then places m)
wide_place (tree.computed e) m = false

abbrev pub wide_in : Scope → Part → Bool
wide_in s (part.of_module before m) = false
wide_in s (part.of_top top) = false
wide_in s (part.of_item before i) = false
wide_in s (part.of_type t) = is_wide t.form
wide_in s (part.of_constant c) = false
wide_in s (part.of_end e) = false
wide_in s (part.of_parameter p) = false
wide_in s (part.of_event static e) = false
wide_in s (part.of_channel need c) = wide_place c.place (meaning_of s c.name)
wide_in s (part.of_member indexed e name) = false
wide_in s (part.of_expression e) = wide_expression s e
wide_in s (part.of_statement x) = false
wide_in s (part.of_operation o) = false
wide_in s (part.of_who w) = false

abbrev pub width_range : Site → Option (List ℕ)
width_range x = name_if (wide_in x.scope x.part) x.scope.around

-- a time that is written is below 2^64 picoseconds

abbrev pub is_late : Span → Bool
is_late t = not (is_time_literal t.count t.unit)

abbrev pub is_late_if : Option Span → Bool
is_late_if None = false
is_late_if (Some t) = is_late t

abbrev pub late_constant : ConstantForm → Bool
late_constant (constant.Number n) = false
late_constant (constant.Negative n) = false
late_constant (constant.Time n unit) = not (is_time_literal n unit)
late_constant (constant.Logic v) = false
late_constant (constant.Truth b) = false

abbrev pub late_expression : tree.Expression → Bool
late_expression (tree.time line n unit) = not (is_time_literal n unit)
late_expression other = false

abbrev pub late_item : tree.Item → Bool
late_item (tree.clock line c) = is_late c.period || is_late c.high || is_late_if c.start
late_item other = false

abbrev pub late_in : Part → Bool
late_in (part.of_module before m) = false
late_in (part.of_top top) = false
late_in (part.of_item before i) = late_item i
late_in (part.of_type t) = false
late_in (part.of_constant c) = late_constant c.form
late_in (part.of_end e) = false
late_in (part.of_parameter p) = false
late_in (part.of_event static e) = false
late_in (part.of_channel need c) = false
late_in (part.of_member indexed e name) = false
late_in (part.of_expression e) = late_expression e
late_in (part.of_statement x) = false
late_in (part.of_operation o) = false
late_in (part.of_who w) = false

abbrev pub literal_range : Site → Option (List ℕ)
literal_range x = name_if (late_in x.part) x.scope.around
