-- What accepted models give, over the flat design alone: where a design is sound, each name stands for something that is
-- there, code is typed, nothing blocks where it must not, and the numbers on room suffice.
use Rattle.std.specs.Prelude.{◌≡◌, ◌⊎◌, ◌≤◌, ◌<◌, ◌+◌, ⊤, ℕ, Bool, true, false, List, [], ◌∷◌, length, slice_get, Option, Some, None, Contains}
use Rattle.event_core.specs.declared.event.Ev.{Ev}
use Rattle.event_core.specs.declared.event.Ev.TheVariants as ev
use Rattle.model_tree.specs.declared.items.ProcessKind.{ProcessKind}
use Rattle.model_tree.specs.declared.items.ProcessKind.TheVariants as process
use Rattle.flat_design.specs.Code as code
use Rattle.flat_design.specs.Code.{Statement, Arena, arena_of, body_at}
use Rattle.flat_design.specs.ValueTypes.{type_of_value}
use Rattle.flat_design.specs.Denotes.{denoted_at}
use Rattle.flat_design.specs.Typed.{IsTyped, ChannelOffers, EachOf, parameters_of}
use Rattle.flat_design.specs.Facts.{Waiting, for_nothing, for_channel, for_fifo, for_events, for_return, next_time, Called, no_call, function, nonblocking, blocking, facts}
use Rattle.flat_design.specs.Reach.{IsIn, InBody, Reached, inner_blocks}
use Rattle.flat_design.specs.Blocking.{DoesNotBlock, IsPlain, SetsNoTrigger}
use Rattle.flat_design.specs.declared.value_types.ValueType.{ValueType}
use Rattle.flat_design.specs.declared.value_types.ValueType.TheVariants as type
use Rattle.flat_design.specs.declared.code.BodyKind.{BodyKind}
use Rattle.flat_design.specs.declared.code.BodyKind.TheVariants as body_kind
use Rattle.flat_design.specs.declared.code.CodeBody.{CodeBody}
use Rattle.flat_design.specs.declared.code.Local.{Local}
use Rattle.flat_design.specs.declared.objects.Object.{Object}
use Rattle.flat_design.specs.declared.design.ChannelId.{ChannelId}
use Rattle.flat_design.specs.declared.design.ChannelId.TheVariants as channel
use Rattle.flat_design.specs.declared.design.Denoted.{Denoted}
use Rattle.flat_design.specs.declared.design.Denoted.TheVariants as denoted
use Rattle.flat_design.specs.declared.design.InstancePart.{InstancePart}
use Rattle.flat_design.specs.declared.design.PortPart.{PortPart}
use Rattle.flat_design.specs.declared.design.ProcessPart.{ProcessPart}
use Rattle.flat_design.specs.declared.design.Hop.{Hop}
use Rattle.flat_design.specs.declared.design.Design.{Design}

-- something is there at this place of a list
abbrev pub IsThere : {A : Type 0} → List A → ℕ → Type 0
IsThere xs n = n < length xs

-- names

-- a channel that is there, whose events are those of its part
abbrev pub ChannelFits : Design → ChannelId → Type 0
ChannelFits d (channel.Signal n events) = (p : _) × (slice_get d.signals n ≡ Some p) × (p.events ≡ events) × (events + 2 < d.events)
ChannelFits d (channel.Resolved n events) = (p : _) × (slice_get d.resolved n ≡ Some p) × (p.events ≡ events) × (events + 2 < d.events)
ChannelFits d (channel.Fifo n events) = (p : _) × (slice_get d.fifos n ≡ Some p) × (p.events ≡ events) × (events + 1 < d.events)
ChannelFits d (channel.Mutex n events) = (n < d.mutexes) × (events < d.events)
ChannelFits d (channel.Semaphore n events) = IsThere d.semaphores n × (events < d.events)

-- what a name stands for is there
abbrev pub DenotedFits : Design → Denoted → Type 0
DenotedFits d denoted.Nothing = ⊤
DenotedFits d (denoted.Channel c) = ChannelFits d c
DenotedFits d (denoted.Event e) = e < d.events
DenotedFits d (denoted.Keeper k) = k < d.keepers
DenotedFits d (denoted.Memory m) = IsThere d.memories m
DenotedFits d (denoted.Variable v) = IsThere d.variables v
DenotedFits d (denoted.Port p) = IsThere d.ports p
DenotedFits d (denoted.Process p) = IsThere d.processes p
DenotedFits d (denoted.Socket hop forward) = IsThere d.hops hop

-- an event of the design's objects, or of one of its processes
abbrev pub EventFits : Design → Ev → Type 0
EventFits d (ev.Fixed e) = e < d.events
EventFits d (ev.Terminated p) = IsThere d.processes p
EventFits d (ev.Restarted p) = IsThere d.processes p

-- the channels of a port are there, and are what it leads to
abbrev pub PortFits : Design → PortPart → Type 0
PortFits d p = EachOf (λ c. ChannelFits d c × ChannelOffers d c p.leads_to) p.channels

-- bodies

-- the instance of this number, of the module that declares a body
pub record IsHomeOf (d : Design) (home : ℕ) (b : CodeBody) : Type 0 where
  pub instance : InstancePart
  pub found : slice_get d.instances home ≡ Some instance
  pub same : instance.module_place ≡ b.module_place

abbrev pub RunsAs : ProcessKind → BodyKind → Type 0
RunsAs process.Thread kind = (kind ≡ body_kind.Thread) ⊎ (kind ≡ body_kind.Clock)
RunsAs process.Method kind = kind ≡ body_kind.Method

-- a process of the design runs a body without parameters in an instance of its module
pub record ProcessFits (d : Design) (p : ProcessPart) : Type 0 where
  pub body : CodeBody
  pub found : body_at (arena_of d.code) p.code ≡ Some body
  pub home : IsHomeOf d p.home body
  pub kind : RunsAs p.kind body.kind
  pub parameters : body.parameters ≡ 0
  pub answer : body.answer ≡ None
  pub sensitive : EachOf (EventFits d) p.sensitive

-- a handler has these parameters and this answer
abbrev pub HasParameters : List Local → List (ValueType × Bool) → Type 0
HasParameters [] [] = ⊤
HasParameters [] (t ∷ ts) = ⊥
HasParameters (l ∷ ls) [] = ⊥
HasParameters (l ∷ ls) (t ∷ ts) = (l.value_type ≡ t.0) × (l.inout ≡ t.1) × HasParameters ls ts

pub record IsHandler (d : Design) (home : ℕ) (parameters : List (ValueType × Bool)) (answer : Option ValueType) (f : ℕ) : Type 0 where
  pub body : CodeBody
  pub found : body_at (arena_of d.code) f ≡ Some body
  pub home_of : IsHomeOf d home body
  pub is_function : body.kind ≡ body_kind.Function
  pub has_parameters : HasParameters (parameters_of body) parameters
  pub has_answer : body.answer ≡ answer

abbrev pub blocking_parameters : List (ValueType × Bool)
blocking_parameters = (type.Payload, false) ∷ (type.Time, true) ∷ []

abbrev pub nonblocking_parameters : List (ValueType × Bool)
nonblocking_parameters = (type.Payload, false) ∷ (type.Int 32, true) ∷ (type.Time, true) ∷ []

abbrev pub HandlerFits : Design → ℕ → List (ValueType × Bool) → Option ValueType → Option ℕ → Type 0
HandlerFits d home parameters answer None = ⊤
HandlerFits d home parameters answer (Some f) = IsHandler d home parameters answer f

pub record HopFits (d : Design) (h : Hop) : Type 0 where
  pub initiator : IsThere d.objects.list h.initiator
  pub target : IsThere d.objects.list h.target
  pub backward : HandlerFits d h.initiator_home nonblocking_parameters (Some (type.Int 32)) h.backward
  pub blocking : HandlerFits d h.target_home blocking_parameters None h.blocking
  pub forward : HandlerFits d h.target_home nonblocking_parameters (Some (type.Int 32)) h.forward

-- statements

-- some statement of the code spawns this function as a process of this kind
pub record IsSpawnedAs (a : Arena) (kind : ProcessKind) (f : ℕ) : Type 0 where
  pub block : ℕ
  pub spawn : _
  pub stands : IsIn a block (code.spawn spawn)
  pub function : spawn.function ≡ f
  pub spawned_kind : spawn.kind ≡ kind

-- a body that runs as a method, and one that runs as a thread
abbrev pub IsMethodBody : Arena → ℕ → CodeBody → Type 0
IsMethodBody a f b = (b.kind ≡ body_kind.Method) ⊎ IsSpawnedAs a process.Method f

abbrev pub IsThreadBody : Arena → ℕ → CodeBody → Type 0
IsThreadBody a f b = (b.kind ≡ body_kind.Thread) ⊎ ((b.kind ≡ body_kind.Clock) ⊎ IsSpawnedAs a process.Thread f)

-- a handler of non-blocking calls, and any handler of a hop
abbrev pub IsNonblockingHandler : Design → ℕ → Type 0
IsNonblockingHandler d f = (n : ℕ) × (h : Hop) × (slice_get d.hops n ≡ Some h) × ((h.backward ≡ Some f) ⊎ (h.forward ≡ Some f))

abbrev pub IsAnyHandler : Design → ℕ → Type 0
IsAnyHandler d f = IsNonblockingHandler d f ⊎ ((n : ℕ) × (h : Hop) × (slice_get d.hops n ≡ Some h) × (h.blocking ≡ Some f))

-- the events that a statement can wait for
abbrev pub events_of_await : code.AwaitTerm → ℕ
events_of_await code.static = 0
events_of_await code.delta = 0
events_of_await (code.for_ e) = 0
events_of_await (code.any es t) = length es
events_of_await (code.all es t) = length es

abbrev pub events_waited_for : Waiting → ℕ
events_waited_for for_nothing = 0
events_waited_for for_channel = 1
events_waited_for (for_fifo n) = 1
events_waited_for (for_events w) = events_of_await w
events_waited_for for_return = 0
events_waited_for (next_time w) = events_of_await w

abbrev pub events_of : Statement → ℕ
events_of s = events_waited_for (facts s).waiting

-- the room of a body suffices for a call that it makes
abbrev pub RoomForCall : Arena → ℕ → ℕ → Type 0
RoomForCall a room f = (b : CodeBody) → body_at a f ≡ Some b → b.room ≤ room

abbrev pub RoomForCalled : Design → ℕ → ℕ → Called → Type 0
RoomForCalled d home room no_call = ⊤
RoomForCalled d home room (function x f arguments) = RoomForCall (arena_of d.code) room f
RoomForCalled d home room (nonblocking x s p phase delay) = ⊤
RoomForCalled d home room (blocking s p delay) = (n : ℕ) (forward : Bool) (hop : Hop) (f : ℕ) → denoted_at d home s ≡ denoted.Socket n forward → slice_get d.hops n ≡ Some hop → hop.blocking ≡ Some f → RoomForCall (arena_of d.code) room f

abbrev pub RoomSuffices : Design → ℕ → ℕ → Statement → Type 0
RoomSuffices d home room s = RoomForCalled d home room (facts s).called

-- A statement of a body, in an instance of its module.
abbrev pub EachStatement : Design → (ℕ → ℕ → CodeBody → Statement → Type 0) → Type 0
EachStatement d P =
    (f : ℕ) (b : CodeBody) (home : ℕ) (s : Statement) → body_at (arena_of d.code) f ≡ Some b → IsHomeOf d home b → InBody (arena_of d.code) b s → P f home b s

-- A statement that is reached from a body, in an instance of its module.
abbrev pub EachReached : Design → (ℕ → CodeBody → Type 0) → (ℕ → Statement → Type 0) → Type 0
EachReached d Root P =
    (f : ℕ) (b : CodeBody) (home : ℕ) (s : Statement) → body_at (arena_of d.code) f ≡ Some b → Root f b → IsHomeOf d home b → Reached (arena_of d.code) b.block s → P home s

pub record SoundDesign (d : Design) : Type 0 where
  pub parents : (i : ℕ) (o : Object) → slice_get d.objects.list i ≡ Some o → (o.parent < i) ⊎ ((i ≡ 0) × (o.parent ≡ 0))
  pub names : (home n : ℕ) → DenotedFits d (denoted_at d home n)
  pub signals : (n : ℕ) (p : _) → slice_get d.signals n ≡ Some p → (type_of_value p.initial ≡ p.value_type) × (p.events + 2 < d.events)
  pub resolved : (n : ℕ) (p : _) → slice_get d.resolved n ≡ Some p → p.events + 2 < d.events
  pub fifos : (n : ℕ) (p : _) → slice_get d.fifos n ≡ Some p → (1 ≤ p.size) × (p.events + 1 < d.events)
  pub variables : (n : ℕ) (p : _) → slice_get d.variables n ≡ Some p → type_of_value p.initial ≡ p.value_type
  pub ports : (n : ℕ) (p : PortPart) → slice_get d.ports n ≡ Some p → PortFits d p
  pub processes : (n : ℕ) (p : ProcessPart) → slice_get d.processes n ≡ Some p → ProcessFits d p
  pub hops : (n : ℕ) (h : Hop) → slice_get d.hops n ≡ Some h → HopFits d h
  pub nested : (b j : ℕ) (s : Statement) → IsIn (arena_of d.code) b s → Contains (inner_blocks s) j → j < b
  pub typed : EachStatement d (λ f home b s. IsTyped (arena_of d.code) b.module_place b.answer (record { design = d; home = home; locals = b.locals }) s)
  pub methods : EachReached d (IsMethodBody (arena_of d.code)) (λ home s. DoesNotBlock d home s)
  pub handlers : EachReached d (λ f b. IsNonblockingHandler d f) (λ home s. DoesNotBlock d home s)
  pub unwinding : (f : ℕ) (b : CodeBody) (home body unwind : ℕ) (s : Statement) → body_at (arena_of d.code) f ≡ Some b → IsHomeOf d home b
      → InBody (arena_of d.code) b (code.guard body unwind) → Reached (arena_of d.code) unwind s → DoesNotBlock d home s × IsPlain s
  pub threads : EachReached d (λ f b. IsThreadBody (arena_of d.code) f b ⊎ IsAnyHandler d f) (λ home s. SetsNoTrigger s)
  pub waits : EachStatement d (λ f home b s. events_of s ≤ b.room)
  pub room : EachStatement d (λ f home b s. RoomSuffices d home b.room s)
