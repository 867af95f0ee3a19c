-- What an expression stands for at a place, and its type. There is none where a part of it breaks a rule of its own, so that
-- no rule is asked of what is broken already.
use Rattle.std.specs.Prelude.{ℕ, ◌*◌, ◌^◌, ◌&&◌, Bool, true, false, nat_lt, if◌then◌else◌, List, [], ◌∷◌, length, is_some, option_map, option_and_then, Option, Some, None}
use Rattle.flat_design.specs.LogicValues.declared.kinds.Digit.{Digit}
use Rattle.flat_design.specs.SimTime.Times.{picoseconds_in}
use Rattle.flat_design.specs.SimTime.declared.moments.Unit.{Unit as TimeUnit}
use Rattle.flat_design.specs.ModelTree.Tree as tree
use Rattle.model_rules.specs.Meanings.{is_width}
use Rattle.model_rules.specs.Members.{row_of, value_member, member_type}
use Rattle.model_rules.specs.Scopes.{Scope, meaning_of}
use Rattle.model_rules.specs.Operators.{option_if, both, seen_as, is_integer, operands, given, unary_type, conversion_type, becomes_vector, concat_type, digit_type, slice_type}
use Rattle.model_rules.specs.declared.meanings.ExpressionType.{ExpressionType}
use Rattle.model_rules.specs.declared.meanings.ExpressionType.TheVariants as t
use Rattle.model_rules.specs.declared.meanings.Meaning.{Meaning}
use Rattle.model_rules.specs.declared.meanings.Meaning.TheVariants as meaning
use Rattle.model_rules.specs.declared.meanings.Seen.{Seen}
use Rattle.model_rules.specs.declared.meanings.Seen.TheVariants as seen
use Rattle.model_rules.specs.declared.meanings.ValueMember.{ValueMember}
use Rattle.model_rules.specs.declared.meanings.ValueMember.TheVariants as reached

-- the type of what is read by a name: a variable, a signal or a port of one, and a process
abbrev pub value_of : Meaning → Option ExpressionType
value_of (meaning.Signal s) = option_map seen_as s
value_of meaning.Resolved = Some t.Logic
value_of meaning.Clock = Some t.Bool
value_of (meaning.Fifo s) = None
value_of meaning.Mutex = None
value_of meaning.Event = None
value_of meaning.Keeper = None
value_of meaning.Semaphore = None
value_of meaning.Memory = None
value_of (meaning.Variable s) = option_map seen_as s
value_of (meaning.In s size) = option_map seen_as s
value_of (meaning.Out s size) = option_map seen_as s
value_of (meaning.FifoIn s size) = None
value_of (meaning.FifoOut s size) = None
value_of (meaning.MutexPort size) = None
value_of (meaning.SemaphorePort size) = None
value_of meaning.Export = None
value_of (meaning.Initiator pass) = None
value_of (meaning.Target pass) = None
value_of meaning.Instance = None
value_of meaning.Function = None
value_of meaning.Process = Some t.Process

abbrev pub type_seen : Seen → Option ExpressionType
type_seen seen.Nothing = None
type_seen (seen.Object m) = value_of m
type_seen (seen.Bytes b) = None
type_seen (seen.Value e) = Some e

abbrev pub value_if : Option ExpressionType → Seen
value_if None = seen.Nothing
value_if (Some e) = seen.Value e

abbrev pub object_if : Option Meaning → Seen
object_if None = seen.Nothing
object_if (Some m) = seen.Object m

-- how many places a port has; nothing else has any
abbrev pub places : Meaning → Option ℕ
places (meaning.Signal s) = None
places meaning.Resolved = None
places meaning.Clock = None
places (meaning.Fifo s) = None
places meaning.Mutex = None
places meaning.Event = None
places meaning.Keeper = None
places meaning.Semaphore = None
places meaning.Memory = None
places (meaning.Variable s) = None
places (meaning.In s size) = Some size
places (meaning.Out s size) = Some size
places (meaning.FifoIn s size) = Some size
places (meaning.FifoOut s size) = Some size
places (meaning.MutexPort size) = Some size
places (meaning.SemaphorePort size) = Some size
places meaning.Export = None
places (meaning.Initiator pass) = None
places (meaning.Target pass) = None
places meaning.Instance = None
places meaning.Function = None
places meaning.Process = None

abbrev pub is_port : Meaning → Bool
is_port m = is_some (places m)

-- a place that is written is below the size
abbrev pub is_below : ℕ → Option ℕ → Bool
is_below n None = false
is_below n (Some size) = nat_lt n size

abbrev pub at_number : ℕ → Meaning → Option Meaning
at_number n m = option_if (is_below n (places m)) m

-- a computed place is an integer
abbrev pub is_integer_type : Option ExpressionType → Bool
is_integer_type None = false
is_integer_type (Some e) = is_integer e

abbrev pub at_computed : Option ExpressionType → Meaning → Option Meaning
at_computed e m = option_if (is_port m && is_integer_type e) m

-- a time literal is below 2^64 picoseconds
abbrev pub is_time_literal : ℕ → TimeUnit → Bool
is_time_literal n unit = nat_lt (n * picoseconds_in unit) (2 ^ 64)

abbrev pub logic_type : List Digit → ExpressionType
logic_type [] = t.Vector 0
logic_type (d ∷ []) = t.Logic
logic_type (d ∷ e ∷ ds) = t.Vector (length (d ∷ e ∷ ds))

abbrev pub seen_member : Option ValueMember → Seen
seen_member None = seen.Nothing
seen_member (Some (reached.One m)) = seen.Value (member_type m)
seen_member (Some (reached.Many b)) = seen.Bytes b

-- a member of an object by the table
abbrev pub member_seen : Seen → List ℕ → Seen
member_seen seen.Nothing name = seen.Nothing
member_seen (seen.Object m) name = seen_member (option_and_then (λ row. value_member row name) (row_of m))
member_seen (seen.Bytes b) name = seen.Nothing
member_seen (seen.Value e) name = seen.Nothing

-- whether an index reaches a byte: of a memory, or of a payload
abbrev pub is_array : Seen → Bool
is_array seen.Nothing = false
is_array (seen.Object meaning.Memory) = true
is_array (seen.Object other) = false
is_array (seen.Bytes b) = true
is_array (seen.Value e) = false

-- an element of a memory or of a payload is an unsigned byte; of a value it is a digit
abbrev pub element_type : Seen → Option ExpressionType
element_type of = if is_array of then Some t.Unsigned else option_and_then digit_type (type_seen of)

abbrev pub element_seen : Seen → Option ExpressionType → Seen
element_seen of index = if is_integer_type index then value_if (element_type of) else seen.Nothing

abbrev pub seen_of : Scope → tree.Expression → Seen
seen_of s (tree.number line n) = seen.Value t.Free
seen_of s (tree.time line n unit) = value_if (option_if (is_time_literal n unit) t.Time)
seen_of s (tree.logic line digits) = seen.Value (logic_type digits)
seen_of s (tree.truth line b) = seen.Value t.Bool
seen_of s (tree.now line) = seen.Value t.Time
seen_of s (tree.myself line) = seen.Value t.Process
seen_of s (tree.constant line word) = seen.Value t.Free
seen_of s (tree.paren line e) = value_if (type_seen (seen_of s e))
seen_of s (tree.convert line c e) = value_if (option_and_then (conversion_type c) (type_seen (seen_of s e)))
seen_of s (tree.to_vector line width e) =
    value_if (option_and_then (λ x. option_if (is_width width && becomes_vector width x) (t.Vector width)) (type_seen (seen_of s e)))
seen_of s (tree.concat line upper lower) = value_if (both concat_type (type_seen (seen_of s upper)) (type_seen (seen_of s lower)))
seen_of s (tree.named line name) = object_if (meaning_of s name)
seen_of s (tree.placed line name n) = object_if (option_and_then (at_number n) (meaning_of s name))
seen_of s (tree.placed_by line name e) = object_if (option_and_then (at_computed (type_seen (seen_of s e))) (meaning_of s name))
seen_of s (tree.member e name) = member_seen (seen_of s e) name
seen_of s (tree.element e index) = element_seen (seen_of s e) (type_seen (seen_of s index))
seen_of s (tree.slice e high low) = value_if (option_and_then (slice_type high low) (type_seen (seen_of s e)))
seen_of s (tree.unary line o e) = value_if (option_and_then (unary_type o) (type_seen (seen_of s e)))
seen_of s (tree.binary o left right) =
    value_if (option_map (given o) (both (operands o) (type_seen (seen_of s left)) (type_seen (seen_of s right))))

abbrev pub type_of : Scope → tree.Expression → Option ExpressionType
type_of s e = type_seen (seen_of s e)

-- a channel that a statement names, where its place is right
abbrev pub with_place : Scope → tree.Place → Meaning → Option Meaning
with_place s tree.first m = Some m
with_place s (tree.place_number n) m = at_number n m
with_place s (tree.computed e) m = at_computed (type_of s e) m

abbrev pub channel_of : Scope → tree.Channel → Option Meaning
channel_of s c = option_and_then (with_place s c.place) (meaning_of s c.name)
