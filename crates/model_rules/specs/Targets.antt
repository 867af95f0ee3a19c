-- What a value may be stored in or written to, and what operations give.
use Rattle.std.specs.Prelude.{ℕ, ◌==◌, Bool, true, false, not, is_none, if◌then◌else◌, List, option_map, option_and_then, Option, Some, None}
use Rattle.flat_design.specs.ModelTree.Tree as tree
use Rattle.flat_design.specs.ModelTree.declared.types.ConstantForm.{ConstantForm}
use Rattle.flat_design.specs.ModelTree.declared.types.ConstantForm.TheVariants as constant
use Rattle.flat_design.specs.Typed.{field_type}
use Rattle.flat_design.specs.declared.value_types.ValueType.{ValueType}
use Rattle.flat_design.specs.declared.value_types.ValueType.TheVariants as type
use Rattle.flat_design.specs.declared.names.Member.TheVariants as member
use Rattle.model_rules.specs.Meanings.{variable_type}
use Rattle.model_rules.specs.Members.{row_of, value_member}
use Rattle.model_rules.specs.declared.meanings.Row.{Row}
use Rattle.model_rules.specs.declared.meanings.Row.TheVariants as row
use Rattle.model_rules.specs.declared.meanings.ValueMember.{ValueMember}
use Rattle.model_rules.specs.declared.meanings.ValueMember.TheVariants as reached
use Rattle.model_rules.specs.declared.meanings.Destination.{Destination}
use Rattle.model_rules.specs.declared.meanings.Destination.TheVariants as to
use Rattle.model_rules.specs.Scopes.{Scope, meaning_of, function_named}
use Rattle.model_rules.specs.Operators.{option_if, seen_as, is_integer, is_bool, is_logic, is_time, is_process, is_payload, is_vector_of}
use Rattle.model_rules.specs.Types.{is_time_literal, is_integer_type, type_of, channel_of}
use Rattle.model_rules.specs.declared.meanings.ExpressionType.{ExpressionType}
use Rattle.model_rules.specs.declared.meanings.ExpressionType.TheVariants as t
use Rattle.model_rules.specs.declared.meanings.Meaning.{Meaning}
use Rattle.model_rules.specs.declared.meanings.Meaning.TheVariants as meaning

-- an integer target takes any integer, any other target exactly its type
abbrev pub takes : ValueType → ExpressionType → Bool
takes type.Bool e = is_bool e
takes (type.Int width) e = is_integer e
takes (type.Uint width) e = is_integer e
takes type.Logic e = is_logic e
takes (type.Vector width) e = is_vector_of width e
takes type.Time e = is_time e
takes type.Process e = is_process e
takes type.Payload e = is_payload e

-- a value that does not go into its target, where the types of both are known
abbrev pub misfits : Option ValueType → Option ExpressionType → Bool
misfits None e = false
misfits (Some target) None = false
misfits (Some target) (Some e) = not (takes target e)

-- two types are the same
abbrev pub same_type : ValueType → ValueType → Bool
same_type type.Bool other = takes type.Bool (seen_as other)
same_type (type.Int width) (type.Int other) = width == other
same_type (type.Int width) other = false
same_type (type.Uint width) (type.Uint other) = width == other
same_type (type.Uint width) other = false
same_type type.Logic other = takes type.Logic (seen_as other)
same_type (type.Vector width) other = takes (type.Vector width) (seen_as other)
same_type type.Time other = takes type.Time (seen_as other)
same_type type.Process other = takes type.Process (seen_as other)
same_type type.Payload other = takes type.Payload (seen_as other)

-- two types that differ, where both are known
abbrev pub differ : Option ValueType → Option ValueType → Bool
differ None other = false
differ (Some x) None = false
differ (Some x) (Some y) = not (same_type x y)

-- the type of a constant of an item; none where it is a time out of range
abbrev pub digits_type : ℕ → ExpressionType
digits_type width = if width == 1 then t.Logic else t.Vector width

abbrev pub constant_type : ConstantForm → Option ExpressionType
constant_type (constant.Number n) = Some t.Free
constant_type (constant.Negative n) = Some t.Free
constant_type (constant.Time n unit) = option_if (is_time_literal n unit) t.Time
constant_type (constant.Logic v) = Some (digits_type v.width)
constant_type (constant.Truth b) = Some t.Bool

-- assignments

abbrev pub to_variable : Option Meaning → Destination
to_variable (Some (meaning.Variable s)) = to.Variable s
to_variable other = to.Nowhere

abbrev pub to_element : Option Meaning → Destination
to_element (Some meaning.Memory) = to.Element
to_element other = to.Nowhere

-- the members of a payload that can be assigned
abbrev pub to_field : Option ValueMember → Destination
to_field (Some (reached.One (member.Field f))) = to.Field f
to_field other = to.Nowhere

abbrev pub to_byte : Option ValueMember → Destination
to_byte (Some (reached.Many b)) = to.Byte b
to_byte other = to.Nowhere

abbrev pub assigned_member : List ℕ → Option Row → Option ValueMember
assigned_member name (Some row.Payloads) = value_member row.Payloads name
assigned_member name other = None

abbrev pub member_assigned : List ℕ → Option Meaning → Option ValueMember
member_assigned name m = assigned_member name (option_and_then row_of m)

abbrev pub destination : Option Meaning → Option (List ℕ) → Option tree.Expression → Destination
destination m None None = to_variable m
destination m None (Some index) = to_element m
destination m (Some name) None = to_field (member_assigned name m)
destination m (Some name) (Some index) = to_byte (member_assigned name m)

abbrev pub destination_of : Scope → tree.Target → Destination
destination_of s target = destination (meaning_of s target.name) target.member target.index

-- the type of a target; none where its index is no integer
abbrev pub destination_type : Destination → Option ValueType
destination_type to.Nowhere = None
destination_type (to.Variable s) = s
destination_type (to.Field f) = Some (field_type f)
destination_type (to.Byte b) = Some (type.Uint 8)
destination_type to.Element = Some (type.Uint 8)

abbrev pub is_index : Scope → Option tree.Expression → Bool
is_index s None = true
is_index s (Some index) = is_integer_type (type_of s index)

abbrev pub target_type : Scope → tree.Target → Option ValueType
target_type s target = if is_index s target.index then destination_type (destination_of s target) else None

-- channels

-- the type of what is written to a signal, a fifo, or a port of one
abbrev pub written_type : Meaning → Option ValueType
written_type (meaning.Signal s) = s
written_type meaning.Resolved = Some type.Logic
written_type meaning.Clock = None
written_type (meaning.Fifo s) = s
written_type meaning.Mutex = None
written_type meaning.Event = None
written_type meaning.Keeper = None
written_type meaning.Semaphore = None
written_type meaning.Memory = None
written_type (meaning.Variable s) = None
written_type (meaning.In s size) = None
written_type (meaning.Out s size) = s
written_type (meaning.FifoIn s size) = None
written_type (meaning.FifoOut s size) = s
written_type (meaning.MutexPort size) = None
written_type (meaning.SemaphorePort size) = None
written_type meaning.Export = None
written_type (meaning.Initiator pass) = None
written_type (meaning.Target pass) = None
written_type meaning.Instance = None
written_type meaning.Function = None
written_type meaning.Process = None

-- the type of what is taken from a fifo, or a port of one
abbrev pub taken_type : Meaning → Option ValueType
taken_type (meaning.Signal s) = None
taken_type meaning.Resolved = None
taken_type meaning.Clock = None
taken_type (meaning.Fifo s) = s
taken_type meaning.Mutex = None
taken_type meaning.Event = None
taken_type meaning.Keeper = None
taken_type meaning.Semaphore = None
taken_type meaning.Memory = None
taken_type (meaning.Variable s) = None
taken_type (meaning.In s size) = None
taken_type (meaning.Out s size) = None
taken_type (meaning.FifoIn s size) = s
taken_type (meaning.FifoOut s size) = None
taken_type (meaning.MutexPort size) = None
taken_type (meaning.SemaphorePort size) = None
taken_type meaning.Export = None
taken_type (meaning.Initiator pass) = None
taken_type (meaning.Target pass) = None
taken_type meaning.Instance = None
taken_type meaning.Function = None
taken_type meaning.Process = None

-- the type of what is put into a fifo, or a port of one
abbrev pub put_type : Meaning → Option ValueType
put_type (meaning.Signal s) = None
put_type meaning.Resolved = None
put_type meaning.Clock = None
put_type (meaning.Fifo s) = s
put_type meaning.Mutex = None
put_type meaning.Event = None
put_type meaning.Keeper = None
put_type meaning.Semaphore = None
put_type meaning.Memory = None
put_type (meaning.Variable s) = None
put_type (meaning.In s size) = None
put_type (meaning.Out s size) = None
put_type (meaning.FifoIn s size) = None
put_type (meaning.FifoOut s size) = s
put_type (meaning.MutexPort size) = None
put_type (meaning.SemaphorePort size) = None
put_type meaning.Export = None
put_type (meaning.Initiator pass) = None
put_type (meaning.Target pass) = None
put_type meaning.Instance = None
put_type meaning.Function = None
put_type meaning.Process = None

-- what a statement writes to its channel, puts into it, and takes from it
abbrev pub written_to : Scope → tree.Channel → Option ValueType
written_to s c = option_and_then written_type (channel_of s c)

abbrev pub put_into : Scope → tree.Channel → Option ValueType
put_into s c = option_and_then put_type (channel_of s c)

abbrev pub taken_from : Scope → tree.Channel → Option ValueType
taken_from s c = option_and_then taken_type (channel_of s c)

-- a variable's type
abbrev pub held_by : Meaning → Option ValueType
held_by (meaning.Variable s) = s
held_by other = None

abbrev pub variable_named : Scope → List ℕ → Option ValueType
variable_named s name = option_and_then held_by (meaning_of s name)

-- results

-- the value that an operation gives; none where that is not known
abbrev pub answer_of : tree.FunctionItem → Option ValueType
answer_of f = option_and_then variable_type f.answer

abbrev pub result_type : Scope → tree.Operation → Option ExpressionType
result_type s (tree.call name arguments) = option_map seen_as (option_and_then answer_of (function_named s.items name))
result_type s (tree.read c) = option_map seen_as (taken_from s c)
result_type s (tree.nb_read c name) = Some t.Bool
result_type s (tree.nb_write c e) = Some t.Bool
result_type s (tree.trylock c) = Some t.Signed
result_type s (tree.unlock c) = Some t.Signed
result_type s (tree.sem_trywait c) = Some t.Signed
result_type s (tree.nb_transport socket p phase delay) = Some t.Signed

-- a call of a function without a type has no value to give
abbrev pub has_no_answer : Option tree.FunctionItem → Bool
has_no_answer None = false
has_no_answer (Some f) = is_none f.answer

abbrev pub gives_nothing : Scope → tree.Operation → Bool
gives_nothing s (tree.call name arguments) = has_no_answer (function_named s.items name)
gives_nothing s (tree.read c) = false
gives_nothing s (tree.nb_read c name) = false
gives_nothing s (tree.nb_write c e) = false
gives_nothing s (tree.trylock c) = false
gives_nothing s (tree.unlock c) = false
gives_nothing s (tree.sem_trywait c) = false
gives_nothing s (tree.nb_transport socket p phase delay) = false
