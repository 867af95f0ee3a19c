-- The configuration of a run: all that its next step and its texts depend on.
use Rattle.std.specs.Prelude.{ℕ, zero, suc, ◌==◌, Bool, true, false, List, [], ◌∷◌, ◌++◌, map, replicate, length, slice_get, slice_set, Option, Some, None, if◌then◌else◌}
use Rattle.signal_channel.specs.LogicValues.declared.kinds.Value.{Value}
use Rattle.flat_design.specs.ModelTree.declared.items.ProcessKind.{ProcessKind}
use Rattle.flat_design.specs.ModelTree.declared.items.SignalKind.{SignalKind}
use Rattle.flat_design.specs.ModelTree.declared.items.SignalKind.TheVariants as signal_kind
use Rattle.flat_design.specs.EventCore.declared.event.Ev.{Ev}
use Rattle.flat_design.specs.EventCore.declared.notifications.Pending.{Pending}
use Rattle.flat_design.specs.EventCore.declared.notifications.Pending.TheVariants as pending
use Rattle.signal_channel.specs.Signals as signals
use Rattle.signal_channel.specs.Drivers.{Driven, undriven}
use Rattle.signal_channel.specs.declared.signal.Policy.{Policy}
use Rattle.signal_channel.specs.declared.signal.Policy.TheVariants as policy
use Rattle.signal_channel.specs.declared.signal.Signal.{Signal}
use Rattle.fifo_sync.specs.Fifos.{Queued, nothing_in}
use Rattle.transport_phases.specs.History.{Entry}
use Rattle.quantum_keeper.specs.declared.keeper.Keeper.{Keeper}
use Rattle.quantum_keeper.specs.Keepers.{at_start}
use Rattle.flat_design.specs.Code.{Arena, arena_of}
use Rattle.flat_design.specs.declared.objects.Object.{Object}
use Rattle.flat_design.specs.declared.design.SignalPart.{SignalPart}
use Rattle.flat_design.specs.declared.design.FifoPart.{FifoPart}
use Rattle.flat_design.specs.declared.design.SemaphorePart.{SemaphorePart}
use Rattle.flat_design.specs.declared.design.MemoryPart.{MemoryPart}
use Rattle.flat_design.specs.declared.design.VariablePart.{VariablePart}
use Rattle.flat_design.specs.declared.design.ProcessPart.{ProcessPart}
use Rattle.flat_design.specs.declared.design.Design.{Design}
use Rattle.sim_model.specs.Residual.{Residual, Mark, skip}
use Rattle.sim_model.specs.Payloads.{Payloads}
use Rattle.sim_model.specs.declared.plain.Phase.{Phase}
use Rattle.sim_model.specs.declared.plain.Phase.TheVariants as phase
use Rattle.sim_model.specs.declared.plain.Command.{Command}

-- the phase and the time: whether a run has begun, now, the run's end, whether the model asked to stop since the run began,
-- and whether the session is stopped
pub record Cycle : Type 0 where
  pub phase : Phase
  pub begun : Bool
  pub now : ℕ
  pub end : Option ℕ
  pub stop_asked : Bool
  pub stopped : Bool

-- what an instance waits for: nothing, for it is active, runnable or ended; its static sensitivity; any of these events; or
-- all of these that are left
pub data Wait : Type 0 where
  waits_for_nothing : Wait
  waits_statically : Wait
  waits_for_any : List Ev → Wait
  waits_for_all : List Ev → Wait

-- when a wait ends by time: never; in the next delta notification phase; or at this time
pub data Deadline : Type 0 where
  no_deadline : Deadline
  next_delta : Deadline
  at_time : ℕ → Deadline

pub record Trigger : Type 0 where
  pub wait : Wait
  pub deadline : Deadline

-- A process of the design or a spawned one: its kind, the instance of a module that it is in, its path, its static
-- sensitivity, its body and first arguments; what is left of the body, and whether that was begun; what it waits for, and
-- how it waits after its return, where a next trigger was set; and its flags: suspended, kept runnable till it is resumed,
-- disabled, ended.
pub record Instance : Type 0 where
  pub kind : ProcessKind
  pub home : ℕ
  pub path : List ℕ
  pub static : List Ev
  pub code : ℕ
  pub arguments : List Value
  pub residual : Residual
  pub started : Bool
  pub wait : Wait
  pub deadline : Deadline
  pub trigger : Option Trigger
  pub suspended : Bool
  pub kept : Bool
  pub disabled : Bool
  pub ended : Bool

-- the runnable instances and the active ones by their serials, the top of the stack first, and all by serial; and of each, also
-- of one that has ended, the instance that spawned it, where one did
pub record Processes : Type 0 where
  pub runnable : List ℕ
  pub stack : List ℕ
  pub instances : List Instance
  pub parents : List (Option ℕ)

-- the channels of each kind, by their numbers; of signals and resolved signals also whether the last update changed them,
-- and of resolved signals whether they asked for an update
pub record Channels : Type 0 where
  pub signals : List Signal
  pub changed : List Bool
  pub resolved : List Driven
  pub resolved_asked : List Bool
  pub resolved_changed : List Bool
  pub fifos : List Queued
  pub mutexes : List (Option ℕ)
  pub semaphores : List ℕ

-- the variables of modules, and the bytes of memories
pub record Store : Type 0 where
  pub variables : List Value
  pub memories : List (List ℕ)

-- payloads, and what was called and returned on each hop, the oldest first
pub record Transactions : Type 0 where
  pub pool : Payloads
  pub hops : List (List Entry)

-- quantum keepers, and the global quantum
pub record Quantum : Type 0 where
  pub keepers : List Keeper
  pub global : ℕ

-- what a report shows: a line; or, where it tells the turns, the line of a taking
pub data Told : Type 0 where
  line : List ℕ → Told
  turn : List ℕ → Told

-- the values of all objects that have values to be seen, at a time
pub record Snapshot : Type 0 where
  pub time : ℕ
  pub values : List Value

-- what is seen of the run from outside, the oldest first; the marks of guards; and the number of the next guard
pub record Trace : Type 0 where
  pub told : List Told
  pub snapshots : List Snapshot
  pub marks : List Mark
  pub next_guard : ℕ

pub record Config : Type 0 where
  pub design : Design
  pub cycle : Cycle
  pub processes : Processes
  pub events : List Pending
  pub channels : Channels
  pub store : Store
  pub transactions : Transactions
  pub quantum : Quantum
  pub script : List Command
  pub trace : Trace

abbrev pub arena : Config → Arena
arena c = arena_of c.design.code

-- paths: the names from the top instance down to an object, joined by dots

abbrev pub below : List ℕ → List ℕ → List ℕ
below path name = path ++ 46 ∷ name

abbrev pub name_of : Option Object → List ℕ
name_of None = []
name_of (Some o) = o.name

abbrev pub is_own_parent : ℕ → Option Object → Bool
is_own_parent i None = true
is_own_parent i (Some o) = o.parent == i

abbrev pub parent_of : Option Object → ℕ
parent_of None = 0
parent_of (Some o) = o.parent

-- a parent has a lower number, so that as many steps up as that number suffice
unfoldable pub path_up : ℕ → List Object → ℕ → List ℕ
path_up zero objects i = name_of (slice_get objects i)
path_up (suc n) objects i =
    if is_own_parent i (slice_get objects i) then name_of (slice_get objects i)
    else below (path_up n objects (parent_of (slice_get objects i))) (name_of (slice_get objects i))

abbrev pub path_of : Design → ℕ → List ℕ
path_of d i = path_up i d.objects.list i

-- first values

abbrev pub policy_of : SignalKind → Bool → Policy
policy_of signal_kind.Signal true = policy.Many
policy_of signal_kind.Signal false = policy.One
policy_of signal_kind.Buffer true = policy.BufferMany
policy_of signal_kind.Buffer false = policy.Buffer

abbrev pub first_signal : SignalPart → Signal
first_signal p = signals.unwritten (policy_of p.kind p.many) p.initial

-- a process of the design before it was ever taken: it waits for its static sensitivity
abbrev pub first_instance : Design → ProcessPart → Instance
first_instance d p = record {
  kind = p.kind;
  home = p.home;
  path = path_of d p.object;
  static = p.sensitive;
  code = p.code;
  arguments = [];
  residual = skip;
  started = false;
  wait = waits_statically;
  deadline = no_deadline;
  trigger = None;
  suspended = false;
  kept = false;
  disabled = false;
  ended = false;
}

abbrev pub first_channels : Design → Channels
first_channels d = record {
  signals = map first_signal d.signals;
  changed = replicate (length d.signals) false;
  resolved = replicate (length d.resolved) undriven;
  resolved_asked = replicate (length d.resolved) false;
  resolved_changed = replicate (length d.resolved) false;
  fifos = map (λ (p : FifoPart). nothing_in p.size) d.fifos;
  mutexes = replicate d.mutexes None;
  semaphores = map (λ (p : SemaphorePart). p.start) d.semaphores;
}

-- the configuration before the first command: Idle at 0, with first values, nothing runnable and nothing pending
abbrev pub start : Design → List Command → Config
start d script = record {
  design = d;
  cycle = record { phase = phase.Idle; begun = false; now = 0; end = None; stop_asked = false; stopped = false };
  processes = record { runnable = []; stack = []; instances = map (first_instance d) d.processes; parents = map (λ (p : ProcessPart). None) d.processes };
  events = replicate d.events pending.Nothing;
  channels = first_channels d;
  store = record { variables = map (λ (p : VariablePart). p.initial) d.variables; memories = map (λ (p : MemoryPart). replicate p.size 0) d.memories };
  transactions = record { pool = []; hops = replicate (length d.hops) [] };
  quantum = record { keepers = replicate d.keepers at_start; global = 0 };
  script = script;
  trace = record { told = []; snapshots = []; marks = []; next_guard = 0 };
}

-- moves of a configuration

abbrev pub instance_at : Config → ℕ → Option Instance
instance_at c p = slice_get c.processes.instances p

abbrev pub changed_at : {A : Type 0} → List A → ℕ → (A → A) → Option A → List A
changed_at xs n f None = xs
changed_at xs n f (Some x) = slice_set xs n (f x)

-- the element of this number changed; where there is none nothing changes
abbrev pub change : {A : Type 0} → List A → ℕ → (A → A) → List A
change xs n f = changed_at xs n f (slice_get xs n)

abbrev pub change_instance : Config → ℕ → (Instance → Instance) → Config
change_instance c p f = record c { processes = record c.processes { instances = change c.processes.instances p f } }

abbrev pub with_residual : Config → ℕ → Residual → Config
with_residual c p r = change_instance c p (λ i. record i { residual = r })

abbrev pub with_marks : Config → List Mark → Config
with_marks c marks = record c { trace = record c.trace { marks = c.trace.marks ++ marks } }

abbrev pub with_told : Config → Told → Config
with_told c t = record c { trace = record c.trace { told = c.trace.told ++ t ∷ [] } }

abbrev pub with_stack : Config → List ℕ → Config
with_stack c stack = record c { processes = record c.processes { stack = stack } }

abbrev pub with_runnable : Config → List ℕ → Config
with_runnable c runnable = record c { processes = record c.processes { runnable = runnable } }

abbrev pub with_phase : Config → Phase → Config
with_phase c p = record c { cycle = record c.cycle { phase = p } }
