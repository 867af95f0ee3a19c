-- Names: that they differ, that each name which is used is declared, and that it is what the construct needs. Each of these
-- rules answers the name concerned where a site breaks it.
use Rattle.std.specs.Prelude.{ℕ, Bool, true, false, ◌&&◌, ◌||◌, not, List, [], ◌∷◌, ◌++◌, bytes_eq, find, is_some, is_none, option_map, option_and_then, Option, Some, None}
use Rattle.std.specs.List.{list_any}
use Rattle.std.specs.Option.{option_or}
use Rattle.flat_design.specs.ModelTree.Tree as tree
use Rattle.flat_design.specs.ModelTree.Parts as made
use Rattle.flat_design.specs.ModelTree.Parts.{Role, parts_of, joined}
use Rattle.flat_design.specs.ModelTree.declared.statements.Who.{Who}
use Rattle.flat_design.specs.ModelTree.declared.statements.Who.TheVariants as who
use Rattle.flat_design.specs.ModelTree.declared.items.InitiatorRole.{InitiatorRole}
use Rattle.flat_design.specs.ModelTree.declared.items.InitiatorRole.TheVariants as initiator
use Rattle.flat_design.specs.ModelTree.declared.items.TargetRole.{TargetRole}
use Rattle.flat_design.specs.ModelTree.declared.items.TargetRole.TheVariants as target
use Rattle.flat_design.specs.declared.value_types.ValueType.TheVariants as type
use Rattle.flat_design.specs.declared.names.EventMember.{EventMember}
use Rattle.flat_design.specs.declared.names.EventMember.TheVariants as event
use Rattle.model_rules.specs.Meanings.{Declared, declarations, declared_name}
use Rattle.model_rules.specs.Members.{row_of, value_member, event_member, has_edges}
use Rattle.model_rules.specs.declared.meanings.Row.{Row}
use Rattle.model_rules.specs.declared.meanings.Row.TheVariants as row
use Rattle.model_rules.specs.declared.meanings.ValueMember.{ValueMember}
use Rattle.model_rules.specs.declared.meanings.ValueMember.TheVariants as reached
use Rattle.model_rules.specs.declared.meanings.Seen.{Seen}
use Rattle.model_rules.specs.declared.meanings.Seen.TheVariants as seen
use Rattle.model_rules.specs.declared.meanings.Destination.{Destination}
use Rattle.model_rules.specs.declared.meanings.Destination.TheVariants as to
use Rattle.model_rules.specs.Scopes.{Scope, meaning_of, is_known, module_named}
use Rattle.model_rules.specs.Types.{is_port, seen_of}
use Rattle.model_rules.specs.Targets.{destination_of}
use Rattle.model_rules.specs.declared.meanings.Meaning.{Meaning}
use Rattle.model_rules.specs.declared.meanings.Meaning.TheVariants as meaning
use Rattle.model_rules.specs.Sites as part
use Rattle.model_rules.specs.Sites.{Part, Site}
use Rattle.model_rules.specs.declared.needs.Need.{Need}
use Rattle.model_rules.specs.declared.needs.Need.TheVariants as need_of

-- the first that is found in a list
abbrev pub first : {A B : Type 0} → (A → Option B) → List A → Option B
first f [] = None
first f (x ∷ xs) = option_or (f x) (first f xs)

abbrev pub name_if : Bool → List ℕ → Option (List ℕ)
name_if false name = None
name_if true name = Some name

-- names differ

-- a module's name is none of those before it
abbrev pub is_module_name : List tree.Module → List ℕ → Bool
is_module_name modules name = is_some (module_named modules name)

-- an item's name is none of those before it in its module
abbrev pub is_item_name : List tree.Item → List ℕ → Bool
is_item_name items name = list_any (λ (d : Declared). bytes_eq d.name name) (declarations items)

abbrev pub double_item : List tree.Item → Option (List ℕ) → Option (List ℕ)
double_item before None = None
double_item before (Some name) = name_if (is_item_name before name) name

-- a local variable's name is visible nowhere at its place
abbrev pub double_local : Scope → tree.Statement → Option (List ℕ)
double_local s (tree.var line t name e) = name_if (is_known s name) name
double_local s (tree.assign line t e) = None
double_local s (tree.operate line name at o) = None
double_local s (tree.act line a) = None
double_local s (tree.if_ line e body other) = None
double_local s (tree.while_ line e body) = None
double_local s (tree.guard line body undo) = None
double_local s (tree.try_ line body handlers) = None

abbrev pub double_in : Scope → Part → Option (List ℕ)
double_in s (part.of_module before m) = name_if (is_module_name before m.name) m.name
double_in s (part.of_top top) = None
double_in s (part.of_item before i) = double_item before (declared_name i)
double_in s (part.of_type t) = None
double_in s (part.of_constant c) = None
double_in s (part.of_end e) = None
double_in s (part.of_parameter p) = name_if (is_known s p.name) p.name
double_in s (part.of_event static e) = None
double_in s (part.of_channel need c) = None
double_in s (part.of_member indexed e name) = None
double_in s (part.of_expression e) = None
double_in s (part.of_statement x) = double_local s x
double_in s (part.of_operation o) = None
double_in s (part.of_who w) = None

abbrev pub double_name : Site → Option (List ℕ)
double_name x = double_in x.scope x.part

-- the names that stand in a construct itself, and what each has to be there

abbrev pub Used : Type 0
Used = List ℕ × Need

abbrev pub optional : Option (List ℕ) → Need → List Used
optional None need = []
optional (Some name) need = (name, need) ∷ []

-- a name of an action, by what it is to be; an exception needs no declaration
abbrev pub role_uses : Role → List ℕ → List Used
role_uses made.event name = (name, need_of.PlainEvent) ∷ []
role_uses made.payload name = (name, need_of.Payload) ∷ []
role_uses made.memory name = (name, need_of.Memory) ∷ []
role_uses made.initiator name = (name, need_of.Initiator) ∷ []
role_uses made.keeper name = (name, need_of.Keeper) ∷ []
role_uses made.carried name = (name, need_of.Variable) ∷ []
role_uses made.delay name = (name, need_of.Variable) ∷ []
role_uses made.exception name = []

abbrev pub part_uses : made.Part → List Used
part_uses (made.name r name) = role_uses r name
part_uses (made.next_name r name) = role_uses r name
part_uses (made.reaching_name r name all) = role_uses r name
part_uses (made.text x) = []
part_uses (made.term u e) = []
part_uses (made.term_if u e) = []
part_uses (made.next_term u e) = []
part_uses (made.next_term_if u e) = []
part_uses (made.channel u c) = []
part_uses (made.waiting w) = []
part_uses (made.notification n) = []
part_uses (made.instance x) = optional x.handle need_of.Variable ++ (x.function, need_of.Function) ∷ []
part_uses (made.process w) = []
part_uses (made.reaching_process w all) = []

abbrev pub action_uses : tree.Action → List Used
action_uses a = joined part_uses (λ xs ys. xs ++ ys) [] (parts_of a)

abbrev pub operation_uses : tree.Operation → List Used
operation_uses (tree.call name arguments) = (name, need_of.Function) ∷ []
operation_uses (tree.read c) = []
operation_uses (tree.nb_read c name) = (name, need_of.Variable) ∷ []
operation_uses (tree.nb_write c e) = []
operation_uses (tree.trylock c) = []
operation_uses (tree.unlock c) = []
operation_uses (tree.sem_trywait c) = []
operation_uses (tree.nb_transport socket p phase delay) = (socket, need_of.Socket) ∷ (p, need_of.Variable) ∷ (phase, need_of.Variable) ∷ (delay, need_of.Variable) ∷ []

-- what the name of an assignment's target has to be, by what follows it
abbrev pub target_need : Option (List ℕ) → Option tree.Expression → Need
target_need None None = need_of.Variable
target_need None (Some index) = need_of.Memory
target_need (Some member) index = need_of.Object

abbrev pub statement_uses : tree.Statement → List Used
statement_uses (tree.var line t name e) = []
statement_uses (tree.assign line target e) = (target.name, target_need target.member target.index) ∷ []
statement_uses (tree.operate line name at o) = optional name need_of.Variable
statement_uses (tree.act line a) = action_uses a
statement_uses (tree.if_ line e body other) = []
statement_uses (tree.while_ line e body) = []
statement_uses (tree.guard line body undo) = []
statement_uses (tree.try_ line body handlers) = []

-- the handlers of a socket
abbrev pub initiator_uses : InitiatorRole → List Used
initiator_uses initiator.Pass = []
initiator_uses (initiator.Own backward) = optional backward need_of.Function

abbrev pub target_uses : TargetRole → List Used
target_uses target.Pass = []
target_uses (target.Own blocking forward) = optional blocking need_of.Function ++ optional forward need_of.Function

abbrev pub item_uses : tree.Item → List Used
item_uses (tree.signal line s) = []
item_uses (tree.resolved line name) = []
item_uses (tree.clock line c) = []
item_uses (tree.fifo line t name size) = []
item_uses (tree.plain line kind name) = []
item_uses (tree.semaphore line name c) = []
item_uses (tree.memory line name size) = []
item_uses (tree.variable line t name c) = []
item_uses (tree.port line i name size) = []
item_uses (tree.export line i name) = []
item_uses (tree.initiator line name role) = initiator_uses role
item_uses (tree.target line name role) = target_uses role
item_uses (tree.instance line kind name) = []
item_uses (tree.bind line left right) = []
item_uses (tree.function line f) = []
item_uses (tree.process line p) = []

abbrev pub who_uses : Who → List Used
who_uses (who.Named line name) = (name, need_of.Process) ∷ []
who_uses (who.Myself line) = []

abbrev pub uses : Part → List Used
uses (part.of_module before m) = []
uses (part.of_top top) = []
uses (part.of_item before i) = item_uses i
uses (part.of_type t) = []
uses (part.of_constant c) = []
uses (part.of_end e) = []
uses (part.of_parameter p) = []
uses (part.of_event static e) = []
uses (part.of_channel need c) = (c.name, need) ∷ []
uses (part.of_member indexed e name) = []
uses (part.of_expression e) = []
uses (part.of_statement x) = statement_uses x
uses (part.of_operation o) = operation_uses o
uses (part.of_who w) = who_uses w

-- what is what

abbrev pub is_value : Meaning → Bool
is_value (meaning.Signal s) = true
is_value meaning.Resolved = true
is_value meaning.Clock = true
is_value (meaning.Variable s) = true
is_value (meaning.In s size) = true
is_value (meaning.Out s size) = true
is_value meaning.Process = true
is_value other = false

abbrev pub is_memory : Meaning → Bool
is_memory meaning.Memory = true
is_memory other = false

abbrev pub is_signal_written : Meaning → Bool
is_signal_written (meaning.Signal s) = true
is_signal_written meaning.Resolved = true
is_signal_written (meaning.Out s size) = true
is_signal_written other = false

abbrev pub is_fifo_written : Meaning → Bool
is_fifo_written (meaning.Fifo s) = true
is_fifo_written (meaning.FifoOut s size) = true
is_fifo_written other = false

abbrev pub is_fifo_read : Meaning → Bool
is_fifo_read (meaning.Fifo s) = true
is_fifo_read (meaning.FifoIn s size) = true
is_fifo_read other = false

abbrev pub is_mutex : Meaning → Bool
is_mutex meaning.Mutex = true
is_mutex (meaning.MutexPort size) = true
is_mutex other = false

abbrev pub is_semaphore : Meaning → Bool
is_semaphore meaning.Semaphore = true
is_semaphore (meaning.SemaphorePort size) = true
is_semaphore other = false

abbrev pub is_plain_event : Meaning → Bool
is_plain_event meaning.Event = true
is_plain_event other = false

-- an event, or what has a value-changed event
abbrev pub is_event : Meaning → Bool
is_event meaning.Event = true
is_event (meaning.Signal s) = true
is_event meaning.Resolved = true
is_event meaning.Clock = true
is_event (meaning.In s size) = true
is_event (meaning.Out s size) = true
is_event other = false

abbrev pub is_variable : Meaning → Bool
is_variable (meaning.Variable s) = true
is_variable other = false

abbrev pub is_payload : Meaning → Bool
is_payload (meaning.Variable (Some type.Payload)) = true
is_payload other = false

-- a process, or a variable that holds the handle of one
abbrev pub is_process : Meaning → Bool
is_process meaning.Process = true
is_process (meaning.Variable (Some type.Process)) = true
is_process other = false

abbrev pub is_function : Meaning → Bool
is_function meaning.Function = true
is_function other = false

abbrev pub is_keeper : Meaning → Bool
is_keeper meaning.Keeper = true
is_keeper other = false

abbrev pub is_initiator : Meaning → Bool
is_initiator (meaning.Initiator pass) = true
is_initiator other = false

abbrev pub is_target : Meaning → Bool
is_target (meaning.Target pass) = true
is_target other = false

abbrev pub is_instance : Meaning → Bool
is_instance meaning.Instance = true
is_instance other = false

abbrev pub meets : Need → Meaning → Bool
meets need_of.Readable m = is_value m
meets need_of.Object m = true
meets need_of.Indexed m = is_memory m || is_value m
meets need_of.Written m = is_signal_written m || is_fifo_written m
meets need_of.Put m = is_fifo_written m
meets need_of.Taken m = is_fifo_read m
meets need_of.Mutex m = is_mutex m
meets need_of.Semaphore m = is_semaphore m
meets need_of.Event m = is_event m
meets need_of.StaticEvent m = is_event m
meets need_of.StaticObject m = not (is_variable m)
meets need_of.PlainEvent m = is_plain_event m
meets need_of.Variable m = is_variable m
meets need_of.Payload m = is_payload m
meets need_of.Process m = is_process m
meets need_of.Function m = is_function m
meets need_of.Keeper m = is_keeper m
meets need_of.Memory m = is_memory m
meets need_of.Socket m = is_initiator m || is_target m
meets need_of.Initiator m = is_initiator m

-- members

-- a row has a member in neither column
abbrev pub row_lacks : Row → List ℕ → Bool
row_lacks r name = is_none (value_member r name) && is_none (event_member r name)

-- an object that has a row, which lacks the member
abbrev pub unknown_in_row : List ℕ → Option Row → Option (List ℕ)
unknown_in_row name None = None
unknown_in_row name (Some r) = name_if (row_lacks r name) name

abbrev pub unknown_member : Option Meaning → List ℕ → Option (List ℕ)
unknown_member m name = unknown_in_row name (option_and_then row_of m)

-- an object without a row is of the wrong kind itself, and a member for what the row's test says
abbrev pub wrong_in_row : (Row → Bool) → List ℕ → List ℕ → Option Row → Option (List ℕ)
wrong_in_row is_wrong of name None = Some of
wrong_in_row is_wrong of name (Some r) = name_if (is_wrong r && not (row_lacks r name)) name

abbrev pub wrong_member : (Row → Bool) → List ℕ → List ℕ → Option Meaning → Option (List ℕ)
wrong_member is_wrong of name None = None
wrong_member is_wrong of name (Some m) = wrong_in_row is_wrong of name (row_of m)

-- a member that is no value, or bytes without an index
abbrev pub is_no_value : Bool → Option ValueMember → Bool
is_no_value indexed None = true
is_no_value indexed (Some (reached.One m)) = false
is_no_value indexed (Some (reached.Many b)) = not indexed

-- a member that is no event; edges are those of truth values and logic digits
abbrev pub lacks_edges : Row → Bool
lacks_edges (row.Signals None) = false
lacks_edges (row.Signals (Some s)) = not (has_edges s)
lacks_edges row.Fifos = false
lacks_edges row.Semaphores = false
lacks_edges row.Processes = false
lacks_edges row.Payloads = false
lacks_edges row.Keepers = false

abbrev pub is_no_event : Row → Option EventMember → Bool
is_no_event r None = true
is_no_event r (Some event.Own) = false
is_no_event r (Some event.Posedge) = lacks_edges r
is_no_event r (Some event.Negedge) = lacks_edges r
is_no_event r (Some event.DataWritten) = false
is_no_event r (Some event.DataRead) = false
is_no_event r (Some event.Terminated) = false
is_no_event r (Some event.Reset) = false

-- what the expression in front of a member's dot is: a name with its meaning, or a value of its own
pub data Head : Type 0 where
  broken : Head
  named : List ℕ → Meaning → Head
  computed : List ℕ → Head

abbrev pub named_head : List ℕ → Option Meaning → Head
named_head name None = broken
named_head name (Some m) = named name m

-- the name of what a value is made of
abbrev pub object_name : tree.Expression → List ℕ
object_name (tree.number line n) = []
object_name (tree.time line n unit) = []
object_name (tree.logic line digits) = []
object_name (tree.truth line b) = []
object_name (tree.now line) = []
object_name (tree.myself line) = []
object_name (tree.constant line word) = []
object_name (tree.paren line e) = object_name e
object_name (tree.convert line c e) = object_name e
object_name (tree.to_vector line width e) = object_name e
object_name (tree.concat line upper lower) = object_name upper
object_name (tree.named line name) = name
object_name (tree.placed line name n) = name
object_name (tree.placed_by line name e) = name
object_name (tree.member e name) = name
object_name (tree.element e index) = object_name e
object_name (tree.slice e high low) = object_name e
object_name (tree.unary line op e) = object_name e
object_name (tree.binary op left right) = object_name left

abbrev pub computed_head : List ℕ → Seen → Head
computed_head name seen.Nothing = broken
computed_head name (seen.Object m) = computed name
computed_head name (seen.Bytes b) = computed name
computed_head name (seen.Value e) = computed name

abbrev pub head_of : Scope → tree.Expression → Head
head_of s (tree.named line name) = named_head name (meaning_of s name)
head_of s (tree.placed line name n) = named_head name (meaning_of s name)
head_of s (tree.placed_by line name e) = named_head name (meaning_of s name)
head_of s other = computed_head (object_name other) (seen_of s other)

abbrev pub unknown_of_head : List ℕ → Head → Option (List ℕ)
unknown_of_head name broken = None
unknown_of_head name (named of m) = unknown_member (Some m) name
unknown_of_head name (computed of) = None

abbrev pub wrong_of_head : Bool → List ℕ → Head → Option (List ℕ)
wrong_of_head indexed name broken = None
wrong_of_head indexed name (named of m) = wrong_member (λ r. is_no_value indexed (value_member r name)) of name (Some m)
wrong_of_head indexed name (computed of) = Some of

-- the member of an event
abbrev pub unknown_event : Scope → tree.Channel → Option (List ℕ) → Option (List ℕ)
unknown_event s c None = None
unknown_event s c (Some name) = unknown_member (meaning_of s c.name) name

abbrev pub wrong_event : Scope → tree.Channel → Option (List ℕ) → Option (List ℕ)
wrong_event s c None = None
wrong_event s c (Some name) = wrong_member (λ r. is_no_event r (event_member r name)) c.name name (meaning_of s c.name)

-- the member of an assignment's target: only fields and bytes of payloads are assigned
abbrev pub unknown_assigned : Scope → List ℕ → Option (List ℕ) → Option (List ℕ)
unknown_assigned s of None = None
unknown_assigned s of (Some name) = unknown_member (meaning_of s of) name

abbrev pub goes_nowhere : Destination → Bool
goes_nowhere to.Nowhere = true
goes_nowhere (to.Variable s) = false
goes_nowhere (to.Field f) = false
goes_nowhere (to.Byte b) = false
goes_nowhere to.Element = false

abbrev pub wrong_assigned : Scope → tree.Target → Option (List ℕ) → Option (List ℕ)
wrong_assigned s target None = None
wrong_assigned s target (Some name) = wrong_member (λ row. goes_nowhere (destination_of s target)) target.name name (meaning_of s target.name)

-- ends of bindings

abbrev pub instance_of : tree.Item → Option (List ℕ)
instance_of (tree.signal line s) = None
instance_of (tree.resolved line name) = None
instance_of (tree.clock line c) = None
instance_of (tree.fifo line t name size) = None
instance_of (tree.plain line kind name) = None
instance_of (tree.semaphore line name c) = None
instance_of (tree.memory line name size) = None
instance_of (tree.variable line t name c) = None
instance_of (tree.port line i name size) = None
instance_of (tree.export line i name) = None
instance_of (tree.initiator line name role) = None
instance_of (tree.target line name role) = None
instance_of (tree.instance line kind name) = Some kind
instance_of (tree.bind line left right) = None
instance_of (tree.function line f) = None
instance_of (tree.process line p) = None

abbrev pub is_item_named : List ℕ → tree.Item → Bool
is_item_named name i = is_some (find (λ (d : Declared). bytes_eq d.name name) (declarations (i ∷ [])))

-- the module of a child
abbrev pub child_module : Scope → List ℕ → Option tree.Module
child_module s name = option_and_then (module_named s.modules) (option_and_then instance_of (find (is_item_named name) s.items))

abbrev pub declared_in : tree.Module → List ℕ → Option Meaning
declared_in m name = option_map (λ (d : Declared). d.meaning) (find (λ (d : Declared). bytes_eq d.name name) (declarations m.items))

abbrev pub lacks : List ℕ → Option tree.Module → Bool
lacks name None = false
lacks name (Some m) = is_none (declared_in m name)

abbrev pub unknown_end : Scope → List ℕ → Option (List ℕ) → Option (List ℕ)
unknown_end s name None = name_if (not (is_known s name)) name
unknown_end s name (Some member) = option_or (name_if (not (is_known s name)) name) (name_if (lacks member (child_module s name)) member)

abbrev pub is_no_instance : Option Meaning → Bool
is_no_instance None = false
is_no_instance (Some m) = not (is_instance m)

abbrev pub wrong_end : Scope → List ℕ → Option (List ℕ) → Option (List ℕ)
wrong_end s name None = None
wrong_end s name (Some member) = name_if (is_no_instance (meaning_of s name)) name

-- each name that is used is declared

abbrev pub unknown_use : Scope → Used → Option (List ℕ)
unknown_use s u = name_if (not (is_known s u.0)) u.0

abbrev pub unknown_module : Scope → List ℕ → Option (List ℕ)
unknown_module s name = name_if (not (is_module_name s.modules name)) name

abbrev pub unknown_in_item : Scope → tree.Item → Option (List ℕ)
unknown_in_item s i = option_and_then (unknown_module s) (instance_of i)

abbrev pub unknown_in_statement : Scope → tree.Statement → Option (List ℕ)
unknown_in_statement s (tree.var line t name e) = None
unknown_in_statement s (tree.assign line target e) = unknown_assigned s target.name target.member
unknown_in_statement s (tree.operate line name at o) = None
unknown_in_statement s (tree.act line a) = None
unknown_in_statement s (tree.if_ line e body other) = None
unknown_in_statement s (tree.while_ line e body) = None
unknown_in_statement s (tree.guard line body undo) = None
unknown_in_statement s (tree.try_ line body handlers) = None

-- names that are found otherwise than in the scope: modules, members, and the children of ends
abbrev pub unknown_beside : Scope → Part → Option (List ℕ)
unknown_beside s (part.of_module before m) = None
unknown_beside s (part.of_top top) = unknown_module s top.module
unknown_beside s (part.of_item before i) = unknown_in_item s i
unknown_beside s (part.of_type t) = None
unknown_beside s (part.of_constant c) = None
unknown_beside s (part.of_end e) = unknown_end s e.name e.member
unknown_beside s (part.of_parameter p) = None
unknown_beside s (part.of_event static e) = unknown_event s e.channel e.member
unknown_beside s (part.of_channel need c) = None
unknown_beside s (part.of_member indexed e name) = unknown_of_head name (head_of s e)
unknown_beside s (part.of_expression e) = None
unknown_beside s (part.of_statement x) = unknown_in_statement s x
unknown_beside s (part.of_operation o) = None
unknown_beside s (part.of_who w) = None

abbrev pub unknown_name : Site → Option (List ℕ)
unknown_name x = option_or (first (unknown_use x.scope) (uses x.part)) (unknown_beside x.scope x.part)

-- each name is of the kind that the construct needs

abbrev pub is_unmet : Need → Option Meaning → Bool
is_unmet need None = false
is_unmet need (Some m) = not (meets need m)

abbrev pub wrong_use : Scope → Used → Option (List ℕ)
wrong_use s u = name_if (is_unmet u.1 (meaning_of s u.0)) u.0

-- a place stands on a port alone, and in a static sensitivity it is a number
abbrev pub is_static : Need → Bool
is_static need_of.StaticEvent = true
is_static need_of.StaticObject = true
is_static other = false

abbrev pub is_wrong_place : Need → tree.Place → Option Meaning → Bool
is_wrong_place need place None = false
is_wrong_place need tree.first (Some m) = false
is_wrong_place need (tree.place_number n) (Some m) = not (is_port m)
is_wrong_place need (tree.computed e) (Some m) = not (is_port m) || is_static need

abbrev pub wrong_place : Scope → Need → tree.Channel → Option (List ℕ)
wrong_place s need c = name_if (is_wrong_place need c.place (meaning_of s c.name)) c.name

abbrev pub wrong_in_statement : Scope → tree.Statement → Option (List ℕ)
wrong_in_statement s (tree.var line t name e) = None
wrong_in_statement s (tree.assign line target e) = wrong_assigned s target target.member
wrong_in_statement s (tree.operate line name at o) = None
wrong_in_statement s (tree.act line a) = None
wrong_in_statement s (tree.if_ line e body other) = None
wrong_in_statement s (tree.while_ line e body) = None
wrong_in_statement s (tree.guard line body undo) = None
wrong_in_statement s (tree.try_ line body handlers) = None

abbrev pub wrong_beside : Scope → Part → Option (List ℕ)
wrong_beside s (part.of_module before m) = None
wrong_beside s (part.of_top top) = None
wrong_beside s (part.of_item before i) = None
wrong_beside s (part.of_type t) = None
wrong_beside s (part.of_constant c) = None
wrong_beside s (part.of_end e) = wrong_end s e.name e.member
wrong_beside s (part.of_parameter p) = None
wrong_beside s (part.of_event static e) = wrong_event s e.channel e.member
wrong_beside s (part.of_channel need c) = wrong_place s need c
wrong_beside s (part.of_member indexed e name) = wrong_of_head indexed name (head_of s e)
wrong_beside s (part.of_expression e) = None
wrong_beside s (part.of_statement x) = wrong_in_statement s x
wrong_beside s (part.of_operation o) = None
wrong_beside s (part.of_who w) = None

abbrev pub wrong_kind : Site → Option (List ℕ)
wrong_kind x = option_or (first (wrong_use x.scope) (uses x.part)) (wrong_beside x.scope x.part)
