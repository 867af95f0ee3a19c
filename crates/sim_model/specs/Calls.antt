-- Statements of functions, guards, exceptions and spawned instances.
use Rattle.std.specs.Prelude.{ℕ, suc, ◌+◌, Bool, true, false, not, nat_lt, List, [], ◌∷◌, ◌++◌, map, filter, length, slice_get, option_map, unwrap_or, Option, Some, None, Result, Ok, Err, if◌then◌else◌}
use Rattle.std.specs.List.{flat_map}
use Rattle.std.specs.Fmt.{decimal}
use Rattle.signal_channel.specs.LogicValues.declared.kinds.Value.{Value}
use Rattle.signal_channel.specs.LogicValues.declared.kinds.Value.TheVariants as value
use Rattle.flat_design.specs.EventCore.declared.event.Ev.{Ev}
use Rattle.flat_design.specs.EventCore.declared.event.Ev.TheVariants as ev
use Rattle.flat_design.specs.Code as code
use Rattle.flat_design.specs.Code.{Term, ArgumentTerm, SpawnTerm, Arena, body_at}
use Rattle.flat_design.specs.ValueTypes.{default_value}
use Rattle.flat_design.specs.declared.value_types.ValueType.{ValueType}
use Rattle.flat_design.specs.declared.names.NameUse.{NameUse}
use Rattle.flat_design.specs.declared.code.Local.{Local}
use Rattle.flat_design.specs.declared.code.CodeBody.{CodeBody}
use Rattle.flat_design.specs.declared.code.Handler.{Handler}
use Rattle.flat_design.specs.declared.code.StaticUse.{StaticUse}
use Rattle.flat_design.specs.declared.code.Store.{Store as Target}
use Rattle.flat_design.specs.declared.design.ChannelId.{ChannelId}
use Rattle.flat_design.specs.declared.design.Denoted.{Denoted}
use Rattle.flat_design.specs.declared.design.Denoted.TheVariants as denoted
use Rattle.flat_design.specs.declared.design.PortPart.{PortPart}
use Rattle.flat_design.specs.declared.design.InstancePart.{InstancePart}
use Rattle.flat_design.specs.declared.design.Design.{Design}
use Rattle.flat_design.specs.declared.names.EventMember.{EventMember}
use Rattle.flat_design.specs.declared.names.EventMember.TheVariants as event
use Rattle.flat_design.specs.declared.faults.RunFault.{RunFault}
use Rattle.flat_design.specs.declared.faults.RunFault.TheVariants as fault
use Rattle.transport_phases.specs.History.{Entry, Left}
use Rattle.sim_model.specs.Values.{on_ok, cut_to}
use Rattle.sim_model.specs.Residual.{Residual, Frame, skip, guard, try_, put, block, entered, innermost, open_frames, enter}
use Rattle.sim_model.specs.Unwinding.{returned, return_marks, catches, raise, left_by_raise}
use Rattle.sim_model.specs.Configuration.{Config, Instance, waits_for_nothing, waits_statically, no_deadline, arena, change, below, path_of, with_residual, with_marks, with_runnable}
use Rattle.sim_model.specs.Reading.{Here, denotes, read_name, val, val_if}
use Rattle.sim_model.specs.Storing.{passes, set_name, stored_if}
use Rattle.sim_model.specs.Waiting.{channel_event}
use Rattle.sim_model.specs.declared.plain.Goal.TheVariants as goal_of
use Rattle.sim_model.specs.declared.plain.Via.{Via}

-- a call: the arguments are evaluated, each cut to its parameter's type; an inout argument gives its variable's value

abbrev pub locals_in : Option CodeBody → List Local
locals_in None = []
locals_in (Some b) = b.locals

-- the value of an argument for a parameter; one for which there is no parameter is as it is
abbrev pub for_parameter : List Local → ℕ → Value → Value
for_parameter ls i v = unwrap_or (option_map (λ (l : Local). cut_to l.value_type v) (slice_get ls i)) v

abbrev pub argument_value : Here → ArgumentTerm → Result Value RunFault
argument_value h (code.by_value e) = val h e
argument_value h (code.inout n) = read_name h n

abbrev pub argument_values : Here → List Local → ℕ → List ArgumentTerm → Result (List Value) RunFault
argument_values h ls i [] = Ok []
argument_values h ls i (x ∷ xs) = on_ok (argument_value h x) (λ v. on_ok (argument_values h ls (suc i) xs) (λ vs. Ok (for_parameter ls i v ∷ vs)))

-- as many calls as an instance may have open
abbrev pub frame_limit : ℕ
frame_limit = 64

abbrev pub may_enter : Residual → Result Unit RunFault
may_enter r = if nat_lt (open_frames r) frame_limit then Ok tt else Err fault.FrameDepth

-- the statement s calls the body f
abbrev pub enters : Config → ℕ → Residual → ℕ → ℕ → List Value → Option Via → Config
enters c p r s f args via = with_residual c p (put r (entered (arena c) f args (Some s) via))

abbrev pub do_call : Config → ℕ → Residual → Here → ℕ → ℕ → List ArgumentTerm → Result Config RunFault
do_call c p r h s f arguments =
    on_ok (argument_values h (locals_in (body_at (arena c) f)) 0 arguments) (λ vs. on_ok (may_enter r) (λ ok. Ok (enters c p r s f vs None)))

-- a return evaluates, keeps the answer, cut to the function's type, and ends what it stands in
abbrev pub answer_in : Option CodeBody → Option ValueType
answer_in None = None
answer_in (Some b) = b.answer

abbrev pub answer_type : Arena → Option Frame → Option ValueType
answer_type a None = None
answer_type a (Some x) = answer_in (body_at a x.body)

abbrev pub cut_answer : Option ValueType → Option Value → Option Value
cut_answer None v = v
cut_answer (Some t) None = None
cut_answer (Some t) (Some v) = Some (cut_to t v)

abbrev pub do_return : Config → ℕ → Residual → Here → Option Term → Result Config RunFault
do_return c p r h e = on_ok (val_if h e) (λ v. Ok (with_marks (with_residual c p (returned (cut_answer (answer_type (arena c) (innermost r)) v) r)) (return_marks p r)))

-- at the end of a call its inout arguments get the final values of the parameters, in their order, and then the answer is
-- stored: where none was returned it is the default of the type
abbrev pub final_value : Frame → ℕ → Value → Value
final_value x i v = unwrap_or (slice_get x.locals i) v

abbrev pub given_back : Config → ℕ → Here → Frame → ℕ → List ArgumentTerm → Config
given_back c p h x i [] = c
given_back c p h x i (code.by_value e ∷ more) = given_back c p h x (suc i) more
given_back c p h x i (code.inout n ∷ more) = given_back (set_name c p h n (final_value x i (value.Bool false))) p h x (suc i) more

abbrev pub default_answer : Option ValueType → Value
default_answer None = value.Bool false
default_answer (Some t) = default_value t

abbrev pub answer_of : Arena → Frame → Value
answer_of a x = unwrap_or x.answer (default_answer (answer_type a (Some x)))

abbrev pub call_ends : Config → ℕ → Here → Frame → Option Target → List ArgumentTerm → Config
call_ends c p h x target arguments = stored_if (given_back c p h x 0 arguments) p h target (answer_of (arena c) x)

-- guards and tries: each entering of a guard takes a fresh number

abbrev pub do_guard : Config → ℕ → Residual → ℕ → ℕ → Result Config RunFault
do_guard c p r b u =
    let g = c.trace.next_guard in
    let d = with_marks (with_residual c p (put r (guard (block (arena c) b) g u))) (enter p g ∷ []) in
    Ok (record d { trace = record d.trace { next_guard = g + 1 } })

abbrev pub do_try : Config → ℕ → Residual → ℕ → List Handler → Result Config RunFault
do_try c p r b handlers = Ok (with_residual c p (put r (try_ (block (arena c) b) handlers)))

-- transport calls that an unwinding leaves end their transactions on their hops
abbrev pub with_entry : Config → ℕ → Entry → Config
with_entry c hop e = record c { transactions = record c.transactions { hops = change c.transactions.hops hop (λ h. h ++ e ∷ []) } }

abbrev pub with_left : Config → List Via → Config
with_left c [] = c
with_left c (via ∷ more) = with_left (with_entry c via.hop (Left via.payload)) more

-- an exception goes to the innermost try that names it
abbrev pub thrown : Config → ℕ → Residual → ℕ → Result Config RunFault
thrown c p r e =
    if catches r e then Ok (with_left (with_residual c p (raise (arena c) r e goal_of.Thrown)) (left_by_raise r e))
    else Err (fault.Uncaught e)

-- spawned instances

-- the events of a static sensitivity: a port without a place stands for all its channels; a place that is not bound stands
-- for none
abbrev pub one_of : Option ChannelId → List ChannelId
one_of None = []
one_of (Some ch) = ch ∷ []

abbrev pub at_place : List ChannelId → Option ℕ → List ChannelId
at_place cs None = cs
at_place cs (Some k) = one_of (slice_get cs k)

abbrev pub port_channels : Option PortPart → List ChannelId
port_channels None = []
port_channels (Some p) = p.channels

abbrev pub process_events : EventMember → ℕ → List Ev
process_events event.Own p = []
process_events event.Posedge p = []
process_events event.Negedge p = []
process_events event.DataWritten p = []
process_events event.DataRead p = []
process_events event.Terminated p = ev.Terminated p ∷ []
process_events event.Reset p = ev.Restarted p ∷ []

abbrev pub static_of : Design → EventMember → Option ℕ → Denoted → List Ev
static_of d e k denoted.Nothing = []
static_of d e k (denoted.Channel ch) = channel_event e ch ∷ []
static_of d e k (denoted.Event n) = ev.Fixed n ∷ []
static_of d e k (denoted.Keeper n) = []
static_of d e k (denoted.Memory n) = []
static_of d e k (denoted.Variable n) = []
static_of d e k (denoted.Port n) = map (channel_event e) (at_place (port_channels (slice_get d.ports n)) k)
static_of d e k (denoted.Process p) = process_events e p
static_of d e k (denoted.Socket hop forward) = []

abbrev pub static_events : Here → List StaticUse → List Ev
static_events h es = flat_map (λ (e : StaticUse). static_of h.config.design e.event e.place (denotes h e.name)) es

-- as many instances as may live
abbrev pub instance_limit : ℕ
instance_limit = 65536

abbrev pub is_alive : Instance → Bool
is_alive i = not i.ended

abbrev pub may_spawn : Config → Result Unit RunFault
may_spawn c = if nat_lt (length (filter is_alive c.processes.instances)) instance_limit then Ok tt else Err fault.TooManyInstances

-- the path of a spawned instance: that of the instance of a module, a dot, the function's name, an underscore, the serial
abbrev pub body_name : Option CodeBody → List ℕ
body_name None = []
body_name (Some b) = b.name

abbrev pub home_path : Design → Option InstancePart → List ℕ
home_path d None = []
home_path d (Some i) = path_of d i.object

abbrev pub spawned_path : Config → ℕ → ℕ → ℕ → List ℕ
spawned_path c home f serial = below (home_path c.design (slice_get c.design.instances home)) (body_name (body_at (arena c) f) ++ 95 ∷ decimal serial)

abbrev pub new_instance : Config → Here → SpawnTerm → List Value → Instance
new_instance c h s args = record {
  kind = s.kind;
  home = h.home;
  path = spawned_path c h.home s.function (length c.processes.instances);
  static = static_events h s.sensitive;
  code = s.function;
  arguments = args;
  residual = skip;
  started = false;
  wait = if s.dont_initialize then waits_statically else waits_for_nothing;
  deadline = no_deadline;
  trigger = None;
  suspended = false;
  kept = false;
  disabled = false;
  ended = false;
}

-- its parent is the instance on top of the stack
abbrev pub added : Config → Instance → Config
added c i = record c { processes = record c.processes { instances = c.processes.instances ++ i ∷ []; parents = c.processes.parents ++ slice_get c.processes.stack 0 ∷ [] } }

abbrev pub runnable_unless : Bool → ℕ → Config → Config
runnable_unless true q c = c
runnable_unless false q c = with_runnable c (c.processes.runnable ++ q ∷ [])

abbrev pub handle_stored : Config → ℕ → Here → Option NameUse → ℕ → Config
handle_stored c p h None q = c
handle_stored c p h (Some n) q = set_name c p h n (value.Handle (Some q))

abbrev pub spawns : Config → ℕ → Here → SpawnTerm → List Value → Config
spawns c p h s args =
    handle_stored (runnable_unless s.dont_initialize (length c.processes.instances) (added c (new_instance c h s args))) p h s.handle (length c.processes.instances)

abbrev pub first_arguments : Here → List Local → ℕ → List Term → Result (List Value) RunFault
first_arguments h ls i [] = Ok []
first_arguments h ls i (e ∷ es) = on_ok (val h e) (λ v. on_ok (first_arguments h ls (suc i) es) (λ vs. Ok (for_parameter ls i v ∷ vs)))

abbrev pub do_spawn : Config → ℕ → Residual → Here → SpawnTerm → Result Config RunFault
do_spawn c p r h s =
    on_ok (first_arguments h (locals_in (body_at (arena c) s.function)) 0 s.arguments) (λ vs. on_ok (may_spawn c) (λ ok. Ok (spawns (passes c p r) p h s vs)))
