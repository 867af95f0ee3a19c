-- The code of a statement that holds no others, at a place of a model. There is none where a part of it has none.
use Rattle.std.specs.Prelude.{ℕ, ◌+◌, Bool, true, false, List, [], ◌∷◌, bytes_eq, position, filter_map, option_map, option_and_then, Option, Some, None}
use Rattle.model_rules.specs.ModelTree.Tree as tree
use Rattle.model_rules.specs.ModelTree.declared.types.Parameter.{Parameter}
use Rattle.model_rules.specs.ModelTree.declared.statements.Who.{Who}
use Rattle.model_rules.specs.ModelTree.declared.statements.Who.TheVariants as who
use Rattle.model_rules.specs.ModelTree.declared.items.ProcessKind.{ProcessKind}
use Rattle.model_rules.specs.ModelTree.declared.items.ProcessKind.TheVariants as process
use Rattle.model_rules.specs.FlatDesign.Code as code
use Rattle.model_rules.specs.FlatDesign.Code.{Term, ChannelTerm, EventTerm, AwaitTerm, ArgumentTerm, DestinationTerm, SpawnTerm}
use Rattle.model_rules.specs.FlatDesign.declared.names.NameUse.TheVariants as name_use
use Rattle.model_rules.specs.FlatDesign.declared.names.Member.TheVariants as member
use Rattle.model_rules.specs.FlatDesign.declared.names.EventMember.{EventMember}
use Rattle.model_rules.specs.FlatDesign.declared.names.EventMember.TheVariants as event
use Rattle.model_rules.specs.FlatDesign.declared.code.Store.{Store}
use Rattle.model_rules.specs.FlatDesign.declared.code.StaticUse.{StaticUse}
use Rattle.model_rules.specs.FlatDesign.declared.code.Controlled.{Controlled}
use Rattle.model_rules.specs.FlatDesign.declared.code.Controlled.TheVariants as controlled
use Rattle.model_rules.specs.Members.{row_of, event_member}
use Rattle.model_rules.specs.Scopes.{Scope, meaning_of, use_of, place_of, function_named}
use Rattle.model_rules.specs.Operators.{both}
use Rattle.model_rules.specs.Targets.{written_to, put_into, variable_named}
use Rattle.model_rules.specs.declared.meanings.Destination.{Destination}
use Rattle.model_rules.specs.declared.meanings.Destination.TheVariants as to
use Rattle.code_rules.specs.Terms.{number, term_of}

-- what is told of the module around a body: the number of its first body, and the names of exceptions by their numbers
pub record Home : Type 0 where
  pub first_body : ℕ
  pub exceptions : List (List ℕ)

-- parts together, where each has its code

abbrev pub with_two : {A B C : Type 0} → (A → B → C) → Option A → Option B → Option C
with_two f a b = both (λ x y. Some (f x y)) a b

abbrev pub with_three : {A B C D : Type 0} → (A → B → C → D) → Option A → Option B → Option C → Option D
with_three f a b c = both (λ g z. Some (g z)) (with_two f a b) c

abbrev pub with_four : {A B C D E : Type 0} → (A → B → C → D → E) → Option A → Option B → Option C → Option D → Option E
with_four f a b c d = both (λ g z. Some (g z)) (with_three f a b c) d

-- nothing where nothing is written
abbrev pub if_written : {A B : Type 0} → (A → Option B) → Option A → Option (Option B)
if_written f None = Some None
if_written f (Some x) = option_map Some (f x)

abbrev pub each : {A B : Type 0} → (A → Option B) → List A → Option (List B)
each f [] = Some []
each f (x ∷ xs) = with_two (λ y ys. y ∷ ys) (f x) (each f xs)

-- names

abbrev pub has_body : tree.Item → Option (List ℕ)
has_body (tree.signal line s) = None
has_body (tree.resolved line name) = None
has_body (tree.clock line c) = Some c.name
has_body (tree.fifo line t name size) = None
has_body (tree.plain line kind name) = None
has_body (tree.semaphore line name c) = None
has_body (tree.memory line name size) = None
has_body (tree.variable line t name c) = None
has_body (tree.port line i name size) = None
has_body (tree.export line i name) = None
has_body (tree.initiator line name role) = None
has_body (tree.target line name role) = None
has_body (tree.instance line kind name) = None
has_body (tree.bind line left right) = None
has_body (tree.function line f) = Some f.name
has_body (tree.process line p) = Some p.name

-- bodies are numbered in text order over all modules
abbrev pub body_number : Home → List tree.Item → List ℕ → Option ℕ
body_number h items name = option_map (λ n. h.first_body + n) (position (λ x. bytes_eq x name) (filter_map has_body items))

abbrev pub function_number : Home → Scope → List ℕ → Option ℕ
function_number h s name = option_and_then (λ (f : tree.FunctionItem). body_number h s.items f.name) (function_named s.items name)

abbrev pub exception_number : Home → List ℕ → Option ℕ
exception_number h name = position (λ x. bytes_eq x name) h.exceptions

-- a variable that gets a value, with its type
abbrev pub store : Scope → List ℕ → Option Store
store s name = with_two (λ n t. record { name = n; value_type = t }) (use_of s name) (variable_named s name)

-- channels and events

abbrev pub place_term : Scope → tree.Place → Option (Option Term)
place_term s tree.first = Some None
place_term s (tree.place_number n) = Some (Some (number n))
place_term s (tree.computed e) = option_map Some (term_of s e)

abbrev pub channel_term : Scope → tree.Channel → Option ChannelTerm
channel_term s c = with_two (λ n p. record { channel_name = n; place = p }) (place_of s c.name) (place_term s c.place)

abbrev pub event_of : Scope → List ℕ → Option (List ℕ) → Option EventMember
event_of s name None = Some event.Own
event_of s name (Some x) = option_and_then (λ row. event_member row x) (option_and_then row_of (meaning_of s name))

abbrev pub event_term : Scope → tree.Event → Option EventTerm
event_term s e =
    with_three (λ n p m. record { event_name = n; place = p; event = m }) (use_of s e.channel.name) (place_term s e.channel.place) (event_of s e.channel.name e.member)

abbrev pub static_place : tree.Place → Option (Option ℕ)
static_place tree.first = Some None
static_place (tree.place_number n) = Some (Some n)
static_place (tree.computed e) = None

abbrev pub static_use : Scope → tree.Event → Option StaticUse
static_use s e =
    with_three (λ n p m. record { name = n; place = p; event = m }) (place_of s e.channel.name) (static_place e.channel.place) (event_of s e.channel.name e.member)

abbrev pub await_term : Scope → tree.Waiting → Option AwaitTerm
await_term s tree.static = Some code.static
await_term s tree.delta = Some code.delta
await_term s (tree.for_ e) = option_map code.for_ (term_of s e)
await_term s (tree.one e t) = with_two (λ x y. code.any (x ∷ []) y) (event_term s e) (if_written (term_of s) t)
await_term s (tree.any es t) = with_two code.any (each (event_term s) es) (if_written (term_of s) t)
await_term s (tree.all es t) = with_two code.all (each (event_term s) es) (if_written (term_of s) t)

-- calls

abbrev pub inout_argument : Scope → tree.Expression → Option ArgumentTerm
inout_argument s (tree.named line name) = option_map code.inout (use_of s name)
inout_argument s other = None

abbrev pub argument : Scope → Bool → tree.Expression → Option ArgumentTerm
argument s true e = inout_argument s e
argument s false e = option_map code.by_value (term_of s e)

abbrev pub arguments : Scope → List Parameter → List tree.Expression → Option (List ArgumentTerm)
arguments s [] [] = Some []
arguments s [] (e ∷ es) = None
arguments s (p ∷ ps) [] = None
arguments s (p ∷ ps) (e ∷ es) = with_two (λ x xs. x ∷ xs) (argument s p.inout e) (arguments s ps es)

abbrev pub call_arguments : Scope → List ℕ → List tree.Expression → Option (List ArgumentTerm)
call_arguments s name es = option_and_then (λ (f : tree.FunctionItem). arguments s f.parameters es) (function_named s.items name)

abbrev pub controlled_by : Scope → Who → Option Controlled
controlled_by s (who.Named line name) = option_map controlled.Named (use_of s name)
controlled_by s (who.Myself line) = Some controlled.Myself

abbrev pub spawned_kind : Bool → ProcessKind
spawned_kind true = process.Method
spawned_kind false = process.Thread

abbrev pub spawn_term : Home → Scope → tree.Spawn → Option SpawnTerm
spawn_term h s x =
    with_four (λ handle f es events. record { handle = handle; kind = spawned_kind x.method; function = f; arguments = es; sensitive = events; dont_initialize = x.dont_initialize })
    (if_written (use_of s) x.handle) (function_number h s x.function) (each (term_of s) x.arguments) (each (static_use s) x.sensitive)

-- assignments

abbrev pub to_index : (Term → DestinationTerm) → Scope → Option tree.Expression → Option DestinationTerm
to_index f s None = None
to_index f s (Some index) = option_map f (term_of s index)

abbrev pub destination_term : Scope → tree.Target → Destination → Option DestinationTerm
destination_term s target to.Nowhere = None
destination_term s target (to.Variable t) = option_map code.to_name (store s target.name)
destination_term s target (to.Field f) = option_map (λ n. code.to_field n f) (use_of s target.name)
destination_term s target (to.Byte b) = option_and_then (λ n. to_index (code.to_payload_byte n b) s target.index) (use_of s target.name)
destination_term s target to.Element = option_and_then (λ n. to_index (code.to_element n) s target.index) (place_of s target.name)

-- statements

abbrev pub operation_code : Home → Scope → Option Store → tree.Operation → Option code.Statement
operation_code h s x (tree.call name es) = with_two (code.call x) (function_number h s name) (call_arguments s name es)
operation_code h s x (tree.read c) = option_map (code.read x) (channel_term s c)
operation_code h s x (tree.nb_read c name) = with_two (code.nb_read x) (channel_term s c) (store s name)
operation_code h s x (tree.nb_write c e) = with_three (code.nb_write x) (channel_term s c) (put_into s c) (term_of s e)
operation_code h s x (tree.trylock c) = option_map (code.trylock x) (channel_term s c)
operation_code h s x (tree.unlock c) = option_map (code.unlock x) (channel_term s c)
operation_code h s x (tree.sem_trywait c) = option_map (code.sem_trywait x) (channel_term s c)
operation_code h s x (tree.nb_transport socket p phase delay) = with_four (code.nb_transport x) (place_of s socket) (use_of s p) (use_of s phase) (use_of s delay)

abbrev pub notification_code : Scope → tree.Notification → ℕ → Option code.Statement
notification_code s tree.immediate n = Some (code.notify n)
notification_code s tree.next_delta n = Some (code.notify_delta n)
notification_code s (tree.after e) n = option_map (code.notify_after n) (term_of s e)

-- one statement of the code
abbrev pub single : Option code.Statement → Option (List code.Statement)
single x = option_map (λ f. f ∷ []) x

-- a sync of a keeper is a wait for its local time, and then its reset
abbrev pub synced : ℕ → List code.Statement
synced n = code.wait (code.for_ (code.member (name_use.Declared n) member.Local)) ∷ code.qk_reset n ∷ []

abbrev pub action_code : Home → Scope → tree.Action → Option (List code.Statement)
action_code h s (tree.write c e) = single (with_three code.write (channel_term s c) (written_to s c) (term_of s e))
action_code h s (tree.print text e) = single (option_map (code.print text) (if_written (term_of s) e))
action_code h s (tree.notify name n) = single (option_and_then (notification_code s n) (place_of s name))
action_code h s (tree.cancel name) = single (option_map code.cancel (place_of s name))
action_code h s (tree.wait w) = single (option_map code.wait (await_term s w))
action_code h s (tree.next_trigger w) = single (option_map code.next_trigger (await_term s w))
action_code h s (tree.lock c) = single (option_map code.lock (channel_term s c))
action_code h s (tree.sem_wait c) = single (option_map code.sem_wait (channel_term s c))
action_code h s (tree.post c) = single (option_map code.post (channel_term s c))
action_code h s (tree.make name n enables) = single (with_three code.make (use_of s name) (term_of s n) (if_written (term_of s) enables))
action_code h s (tree.acquire name) = single (option_map code.acquire (use_of s name))
action_code h s (tree.release name) = single (option_map code.release (use_of s name))
action_code h s (tree.carry p m) = single (with_two code.carry (use_of s p) (place_of s m))
action_code h s (tree.b_transport socket p delay) = single (with_three code.b_transport (place_of s socket) (use_of s p) (use_of s delay))
action_code h s (tree.qk_global e) = single (option_map code.qk_global (term_of s e))
action_code h s (tree.qk_inc name e) = single (with_two code.qk_inc (place_of s name) (term_of s e))
action_code h s (tree.qk_set name e) = single (with_two code.qk_set (place_of s name) (term_of s e))
action_code h s (tree.qk_reset name) = single (option_map code.qk_reset (place_of s name))
action_code h s (tree.qk_sync name) = option_map synced (place_of s name)
action_code h s (tree.spawn x) = single (option_map code.spawn (spawn_term h s x))
action_code h s (tree.control c w all) = single (option_map (λ q. code.control c q all) (controlled_by s w))
action_code h s (tree.throw_it w name all) = single (with_two (λ q e. code.throw_it q e all) (controlled_by s w) (exception_number h name))
action_code h s (tree.throw name) = single (option_map code.throw (exception_number h name))
action_code h s (tree.return_ e) = single (option_map code.return_ (if_written (term_of s) e))
action_code h s tree.stop = single (Some code.stop)
