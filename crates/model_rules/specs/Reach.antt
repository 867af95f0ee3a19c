-- What bodies reach: which functions are called from where, at any depth, which statements block, and which may not stand
-- where they are reached. Each of these rules answers the function or process around the site.
use Rattle.std.specs.Prelude.{ℕ, ◌&&◌, ◌||◌, Bool, true, false, not, List, [], ◌∷◌, ◌++◌, map, filter, filter_map, bytes_eq, find, option_map, Option, Some, None}
use Rattle.std.specs.List.{list_any}
use Rattle.flat_design.specs.ModelTree.Tree as tree
use Rattle.flat_design.specs.ModelTree.Parts as made
use Rattle.flat_design.specs.ModelTree.Parts.{Blocking, form_of}
use Rattle.flat_design.specs.ModelTree.declared.items.ProcessKind.{ProcessKind}
use Rattle.flat_design.specs.ModelTree.declared.items.ProcessKind.TheVariants as process
use Rattle.flat_design.specs.ModelTree.declared.items.InitiatorRole.{InitiatorRole}
use Rattle.flat_design.specs.ModelTree.declared.items.InitiatorRole.TheVariants as initiator
use Rattle.flat_design.specs.ModelTree.declared.items.TargetRole.{TargetRole}
use Rattle.flat_design.specs.ModelTree.declared.items.TargetRole.TheVariants as target
use Rattle.flat_design.specs.declared.code.BodyKind.{BodyKind}
use Rattle.flat_design.specs.declared.code.BodyKind.TheVariants as body_kind
use Rattle.model_rules.specs.Meanings.{Declared, declarations}
use Rattle.model_rules.specs.declared.meanings.Meaning.{Meaning}
use Rattle.model_rules.specs.Sites as part
use Rattle.model_rules.specs.Sites.{Part, Site}
use Rattle.model_rules.specs.Names.{name_if, is_fifo_written}

-- bodies

pub record Body : Type 0 where
  pub kind : BodyKind
  pub name : List ℕ
  pub block : tree.Block

abbrev pub process_kind : ProcessKind → BodyKind
process_kind process.Thread = body_kind.Thread
process_kind process.Method = body_kind.Method

abbrev pub body_of : tree.Item → Option Body
body_of (tree.signal line s) = None
body_of (tree.resolved line name) = None
body_of (tree.clock line c) = None
body_of (tree.fifo line t name size) = None
body_of (tree.plain line kind name) = None
body_of (tree.semaphore line name c) = None
body_of (tree.memory line name size) = None
body_of (tree.variable line t name c) = None
body_of (tree.port line i name size) = None
body_of (tree.export line i name) = None
body_of (tree.initiator line name role) = None
body_of (tree.target line name role) = None
body_of (tree.instance line kind name) = None
body_of (tree.bind line left right) = None
body_of (tree.function line f) = Some (record { kind = body_kind.Function; name = f.name; block = f.body })
body_of (tree.process line p) = Some (record { kind = process_kind p.kind; name = p.name; block = p.body })

abbrev pub bodies_in : List tree.Item → List Body
bodies_in items = filter_map body_of items

abbrev pub is_of_kind : BodyKind → BodyKind → Bool
is_of_kind body_kind.Function body_kind.Function = true
is_of_kind body_kind.Function other = false
is_of_kind body_kind.Thread body_kind.Thread = true
is_of_kind body_kind.Thread other = false
is_of_kind body_kind.Method body_kind.Method = true
is_of_kind body_kind.Method other = false
is_of_kind body_kind.Clock body_kind.Clock = true
is_of_kind body_kind.Clock other = false

-- the statements of a block at any depth, each with whether it stands in an unwind block
abbrev pub Placed : Type 0
Placed = tree.Statement × Bool

abbrev mutual
  pub all_in_statement : tree.Statement → Bool → List Placed
  all_in_statement (tree.var line t name e) u = (tree.var line t name e, u) ∷ []
  all_in_statement (tree.assign line target e) u = (tree.assign line target e, u) ∷ []
  all_in_statement (tree.operate line name at o) u = (tree.operate line name at o, u) ∷ []
  all_in_statement (tree.act line a) u = (tree.act line a, u) ∷ []
  all_in_statement (tree.if_ line e body other) u = (tree.if_ line e body other, u) ∷ all_in_block body u ++ all_in_else other u
  all_in_statement (tree.while_ line e body) u = (tree.while_ line e body, u) ∷ all_in_block body u
  all_in_statement (tree.guard line body undo) u = (tree.guard line body undo, u) ∷ all_in_block body u ++ all_in_block undo true
  all_in_statement (tree.try_ line body handlers) u = (tree.try_ line body handlers, u) ∷ all_in_block body u ++ all_in_handlers handlers u

  pub all_in_block : tree.Block → Bool → List Placed
  all_in_block tree.over u = []
  all_in_block (tree.then s ss) u = all_in_statement s u ++ all_in_block ss u

  pub all_in_else : tree.Else → Bool → List Placed
  all_in_else tree.no_else u = []
  all_in_else (tree.else_block body) u = all_in_block body u

  pub all_in_handlers : tree.Handlers → Bool → List Placed
  all_in_handlers tree.no_more u = []
  all_in_handlers (tree.handler name body more) u = all_in_block body u ++ all_in_handlers more u

abbrev pub statements_of : Body → List Placed
statements_of b = all_in_block b.block false

-- the call graph of a module

abbrev pub Names : Type 0
Names = List (List ℕ)

abbrev pub is_among : Names → List ℕ → Bool
is_among names name = list_any (λ n. bytes_eq n name) names

abbrev pub calls_in_operation : List ℕ → tree.Operation → Bool
calls_in_operation f (tree.call name arguments) = bytes_eq name f
calls_in_operation f (tree.read c) = false
calls_in_operation f (tree.nb_read c name) = false
calls_in_operation f (tree.nb_write c e) = false
calls_in_operation f (tree.trylock c) = false
calls_in_operation f (tree.unlock c) = false
calls_in_operation f (tree.sem_trywait c) = false
calls_in_operation f (tree.nb_transport socket p phase delay) = false

-- a statement is a call of this function
abbrev pub is_call_of : List ℕ → tree.Statement → Bool
is_call_of f (tree.var line t name e) = false
is_call_of f (tree.assign line target e) = false
is_call_of f (tree.operate line name at o) = calls_in_operation f o
is_call_of f (tree.act line a) = false
is_call_of f (tree.if_ line e body other) = false
is_call_of f (tree.while_ line e body) = false
is_call_of f (tree.guard line body undo) = false
is_call_of f (tree.try_ line body handlers) = false

abbrev pub calls : List ℕ → Body → Bool
calls f b = list_any (λ (x : Placed). is_call_of f x.0) (statements_of b)

-- a function is called in an unwind block of a body
abbrev pub calls_unwinding : List ℕ → Body → Bool
calls_unwinding f b = list_any (λ (x : Placed). x.1 && is_call_of f x.0) (statements_of b)

-- a statement spawns this function, as a method or as a thread
abbrev pub same_way : Bool → Bool → Bool
same_way true method = method
same_way false method = not method

abbrev pub is_spawn_of : Bool → List ℕ → tree.Statement → Bool
is_spawn_of method f (tree.act line (tree.spawn x)) = same_way method x.method && bytes_eq x.function f
is_spawn_of method f other = false

abbrev pub spawns : Bool → List ℕ → Body → Bool
spawns method f b = list_any (λ (x : Placed). is_spawn_of method f x.0) (statements_of b)

abbrev pub functions : List tree.Item → List Body
functions items = filter (λ (b : Body). is_of_kind body_kind.Function b.kind) (bodies_in items)

abbrev pub names_where : (Body → Bool) → List Body → Names
names_where test bs = map (λ (b : Body). b.name) (filter test bs)

-- one step along the calls: a function to which one of these leads, and all of these with what they lead to
abbrev pub is_next : (Body → Body → Bool) → List Body → Names → Body → Bool
is_next leads fs set b = list_any (λ (c : Body). is_among set c.name && leads c b) fs

abbrev pub spread : (Body → Body → Bool) → List Body → Names → Names
spread leads fs set = names_where (λ (b : Body). is_among set b.name || is_next leads fs set b) fs

-- one round for each function: no chain of calls without repetition is longer
abbrev pub rounds : List Body → (Names → Names) → Names → Names
rounds [] grow set = set
rounds (f ∷ fs) grow set = rounds fs grow (grow set)

abbrev pub closure : (Body → Body → Bool) → List Body → Names → Names
closure leads fs set = rounds fs (spread leads fs) set

-- the first function calls the second; the second calls the first
abbrev pub is_caller : Body → Body → Bool
is_caller c b = calls b.name c

abbrev pub is_called_by : Body → Body → Bool
is_called_by c b = calls c.name b

-- these functions and those that they call, at any depth
abbrev pub reached_from : List tree.Item → Names → Names
reached_from items set = closure is_caller (functions items) set

-- blocking statements

abbrev pub meaning_in : List tree.Item → List ℕ → Option Meaning
meaning_in items name = option_map (λ (d : Declared). d.meaning) (find (λ (d : Declared). bytes_eq d.name name) (declarations items))

abbrev pub is_fifo : Option Meaning → Bool
is_fifo None = false
is_fifo (Some m) = is_fifo_written m

-- wait, read and write on a fifo, lock, sem_wait, b_transport and qk_sync
abbrev pub operation_blocks : tree.Operation → Bool
operation_blocks (tree.call name arguments) = false
operation_blocks (tree.read c) = true
operation_blocks (tree.nb_read c name) = false
operation_blocks (tree.nb_write c e) = false
operation_blocks (tree.trylock c) = false
operation_blocks (tree.unlock c) = false
operation_blocks (tree.sem_trywait c) = false
operation_blocks (tree.nb_transport socket p phase delay) = false

abbrev pub may_block : List tree.Item → Blocking → Bool
may_block items made.never = false
may_block items made.always = true
may_block items (made.where_fifo c) = is_fifo (meaning_in items c.name)

abbrev pub action_blocks : List tree.Item → tree.Action → Bool
action_blocks items a = may_block items (form_of a).blocking

abbrev pub blocks_itself : List tree.Item → tree.Statement → Bool
blocks_itself items (tree.var line t name e) = false
blocks_itself items (tree.assign line target e) = false
blocks_itself items (tree.operate line name at o) = operation_blocks o
blocks_itself items (tree.act line a) = action_blocks items a
blocks_itself items (tree.if_ line e body other) = false
blocks_itself items (tree.while_ line e body) = false
blocks_itself items (tree.guard line body undo) = false
blocks_itself items (tree.try_ line body handlers) = false

abbrev pub has_blocking : List tree.Item → Body → Bool
has_blocking items b = list_any (λ (x : Placed). blocks_itself items x.0) (statements_of b)

-- the functions that have a blocking statement, and those that call them, at any depth
abbrev pub blocking_functions : List tree.Item → Names
blocking_functions items = closure is_called_by (functions items) (names_where (has_blocking items) (functions items))

-- a call of such a function blocks too
abbrev pub is_blocking : List tree.Item → tree.Statement → Bool
is_blocking items s = blocks_itself items s || list_any (λ (n : List ℕ). is_call_of n s) (blocking_functions items)

-- where statements are reached from

-- the functions that bodies of these kinds call, and those that are spawned so, and what they reach
abbrev pub begun_from : List tree.Item → BodyKind → Bool → List ℕ → Bool
begun_from items kind method f = list_any (λ (b : Body). (is_of_kind kind b.kind && calls f b) || spawns method f b) (bodies_in items)

-- the handlers of sockets

abbrev pub is_name : List ℕ → Option (List ℕ) → Bool
is_name f None = false
is_name f (Some name) = bytes_eq name f

abbrev pub is_backward : List ℕ → InitiatorRole → Bool
is_backward f initiator.Pass = false
is_backward f (initiator.Own backward) = is_name f backward

abbrev pub is_forward : List ℕ → TargetRole → Bool
is_forward f target.Pass = false
is_forward f (target.Own blocking forward) = is_name f forward

abbrev pub is_blocking_handler : List ℕ → TargetRole → Bool
is_blocking_handler f target.Pass = false
is_blocking_handler f (target.Own blocking forward) = is_name f blocking

abbrev pub handles_nonblocking : List ℕ → tree.Item → Bool
handles_nonblocking f (tree.initiator line name role) = is_backward f role
handles_nonblocking f (tree.target line name role) = is_forward f role
handles_nonblocking f other = false

abbrev pub handles_blocking : List ℕ → tree.Item → Bool
handles_blocking f (tree.target line name role) = is_blocking_handler f role
handles_blocking f other = false

abbrev pub is_nonblocking_handler : List tree.Item → List ℕ → Bool
is_nonblocking_handler items f = list_any (handles_nonblocking f) items

abbrev pub is_handler : List tree.Item → List ℕ → Bool
is_handler items f = list_any (λ i. handles_nonblocking f i || handles_blocking f i) items

abbrev pub roots : List tree.Item → (List ℕ → Bool) → Names
roots items is_root = names_where (λ (b : Body). is_root b.name) (functions items)

abbrev pub from_methods : List tree.Item → Names
from_methods items = reached_from items (roots items (begun_from items body_kind.Method true))

abbrev pub from_threads : List tree.Item → Names
from_threads items = reached_from items (roots items (λ f. begun_from items body_kind.Thread false f || is_handler items f))

abbrev pub from_nonblocking : List tree.Item → Names
from_nonblocking items = reached_from items (roots items (is_nonblocking_handler items))

abbrev pub from_unwinding : List tree.Item → Names
from_unwinding items = reached_from items (roots items (λ f. list_any (calls_unwinding f) (bodies_in items)))

-- a process of this kind has this name
abbrev pub is_process_of : List tree.Item → BodyKind → List ℕ → Bool
is_process_of items kind name = list_any (λ (b : Body). is_of_kind kind b.kind && bytes_eq b.name name) (bodies_in items)

abbrev pub in_method : Site → Bool
in_method x = is_process_of x.scope.items body_kind.Method x.scope.around || is_among (from_methods x.scope.items) x.scope.around

abbrev pub in_thread : Site → Bool
in_thread x = is_process_of x.scope.items body_kind.Thread x.scope.around || is_among (from_threads x.scope.items) x.scope.around

abbrev pub in_nonblocking : Site → Bool
in_nonblocking x = is_among (from_nonblocking x.scope.items) x.scope.around

abbrev pub unwinds : Site → Bool
unwinds x = x.scope.unwinding || is_among (from_unwinding x.scope.items) x.scope.around

-- the rules

abbrev pub is_next_trigger : tree.Action → Bool
is_next_trigger (tree.next_trigger w) = true
is_next_trigger other = false

abbrev pub is_throw : tree.Action → Bool
is_throw (tree.throw name) = true
is_throw other = false

abbrev pub is_spawn : tree.Action → Bool
is_spawn (tree.spawn x) = true
is_spawn other = false

abbrev pub is_b_transport : tree.Action → Bool
is_b_transport (tree.b_transport socket p delay) = true
is_b_transport other = false

abbrev pub is_nb_transport : tree.Operation → Bool
is_nb_transport (tree.nb_transport socket p phase delay) = true
is_nb_transport other = false

abbrev pub acts : (tree.Action → Bool) → tree.Statement → Bool
acts test (tree.act line a) = test a
acts test other = false

abbrev pub transports : tree.Statement → Bool
transports (tree.act line a) = is_b_transport a
transports (tree.operate line name at o) = is_nb_transport o
transports other = false

-- a statement of this kind stands where it must not
abbrev pub statement_where : (tree.Statement → Bool) → Part → Bool
statement_where test (part.of_statement s) = test s
statement_where test other = false

abbrev pub reached_where : (tree.Statement → Bool) → (Site → Bool) → Site → Option (List ℕ)
reached_where test stands x = name_if (statement_where test x.part && stands x) x.scope.around

abbrev pub wait_in_method : Site → Option (List ℕ)
wait_in_method x = reached_where (is_blocking x.scope.items) in_method x

abbrev pub trigger_in_thread : Site → Option (List ℕ)
trigger_in_thread x = reached_where (acts is_next_trigger) in_thread x

abbrev pub blocking_in_nonblocking : Site → Option (List ℕ)
blocking_in_nonblocking x = reached_where (is_blocking x.scope.items) in_nonblocking x

abbrev pub wait_in_unwind : Site → Option (List ℕ)
wait_in_unwind x = reached_where (is_blocking x.scope.items) unwinds x

abbrev pub throw_in_unwind : Site → Option (List ℕ)
throw_in_unwind x = reached_where (acts is_throw) unwinds x

abbrev pub spawn_in_unwind : Site → Option (List ℕ)
spawn_in_unwind x = reached_where (acts is_spawn) unwinds x

abbrev pub transport_in_unwind : Site → Option (List ℕ)
transport_in_unwind x = reached_where transports unwinds x
