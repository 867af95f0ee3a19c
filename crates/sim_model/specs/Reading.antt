-- The value of an expression, or its first fault.
use Rattle.std.specs.Prelude.{ℕ, Bool, true, false, List, [], ◌∷◌, length, slice_get, option_map, unwrap_or, Option, Some, None, is_some, Result, Ok, Err, if◌then◌else◌}
use Rattle.signal_channel.specs.LogicValues.declared.kinds.Value.{Value}
use Rattle.signal_channel.specs.LogicValues.declared.kinds.Value.TheVariants as value
use Rattle.signal_channel.specs.LogicValues.Integers.{bits_of}
use Rattle.signal_channel.specs.Drivers.{Driven}
use Rattle.signal_channel.specs.declared.signal.Signal.{Signal}
use Rattle.fifo_sync.specs.Fifos.{Queued, available, free}
use Rattle.payload_pool.specs.declared.payload.Payload.{Payload}
use Rattle.quantum_keeper.specs.Keepers.{must_sync}
use Rattle.quantum_keeper.specs.declared.keeper.Keeper.{Keeper}
use Rattle.flat_design.specs.Code as code
use Rattle.flat_design.specs.Code.{Term}
use Rattle.flat_design.specs.Denotes.{denoted_at}
use Rattle.flat_design.specs.declared.names.NameUse.{NameUse}
use Rattle.flat_design.specs.declared.names.NameUse.TheVariants as name_use
use Rattle.flat_design.specs.declared.names.Member.{Member}
use Rattle.flat_design.specs.declared.names.Member.TheVariants as member
use Rattle.flat_design.specs.declared.names.PayloadField.{PayloadField}
use Rattle.flat_design.specs.declared.names.PayloadField.TheVariants as field
use Rattle.flat_design.specs.declared.names.PayloadBytes.{PayloadBytes}
use Rattle.flat_design.specs.declared.names.PayloadBytes.TheVariants as bytes_of
use Rattle.flat_design.specs.declared.design.ChannelId.{ChannelId}
use Rattle.flat_design.specs.declared.design.ChannelId.TheVariants as channel
use Rattle.flat_design.specs.declared.design.Denoted.{Denoted}
use Rattle.flat_design.specs.declared.design.Denoted.TheVariants as denoted
use Rattle.flat_design.specs.declared.design.PortPart.{PortPart}
use Rattle.flat_design.specs.declared.design.Hop.{Hop}
use Rattle.flat_design.specs.declared.design.Design.{Design}
use Rattle.flat_design.specs.declared.faults.RunFault.{RunFault}
use Rattle.flat_design.specs.declared.faults.RunFault.TheVariants as fault
use Rattle.sim_model.specs.Values.{on_ok, truth, bits, process_handle, payload_handle, widened, unsigned, signed, bool_value, unary, binary, decides, digit_at, digits_between, converted, joined_digits, index_within}
use Rattle.sim_model.specs.Residual.{Residual, Frame, innermost, within}
use Rattle.sim_model.specs.Payloads.{payload_of}
use Rattle.sim_model.specs.Configuration.{Config, Instance, instance_at}
use Rattle.sim_model.specs.declared.plain.Via.{Via}

-- where an expression stands: in this configuration, for the instance of this serial, in this instance of a module, among
-- these local variables
pub record Here : Type 0 where
  pub config : Config
  pub serial : ℕ
  pub home : ℕ
  pub locals : List Value

-- a transport call's handler runs in the instance of a module that the other end of its hop is in
abbrev pub far_home : Bool → Hop → ℕ
far_home true h = h.target_home
far_home false h = h.initiator_home

abbrev pub home_of_via : Design → ℕ → Option Via → ℕ
home_of_via d home None = home
home_of_via d home (Some via) = unwrap_or (option_map (far_home via.forward) (slice_get d.hops via.hop)) home

abbrev pub locals_of : Option Frame → List Value
locals_of None = []
locals_of (Some x) = x.locals

-- where the statement in place of instance p, which is i and has this left, stands
abbrev pub here : Config → ℕ → Instance → Residual → Here
here c p i r = record { config = c; serial = p; home = home_of_via c.design i.home (within r); locals = locals_of (innermost r) }

abbrev pub denotes : Here → ℕ → Denoted
denotes h n = denoted_at h.config.design h.home n

-- channels

-- the channel of a port at a place: one that is not bound is out of range
abbrev pub channel_or : List ChannelId → ℕ → Option ChannelId → Result ChannelId RunFault
channel_or cs k None = Err (fault.IndexRange k (length cs))
channel_or cs k (Some ch) = Ok ch

abbrev pub port_channel : Option PortPart → ℕ → Result ChannelId RunFault
port_channel None k = Err (fault.IndexRange k 0)
port_channel (Some p) k = channel_or p.channels k (slice_get p.channels k)

-- what a name stands for as a channel: a channel itself, or that of a port at the place, the first where none is written;
-- anything else has no channel
abbrev pub channel_of : Design → Denoted → Option ℕ → Result ChannelId RunFault
channel_of d denoted.Nothing k = Err (fault.IndexRange 0 0)
channel_of d (denoted.Channel ch) k = Ok ch
channel_of d (denoted.Event e) k = Err (fault.IndexRange 0 0)
channel_of d (denoted.Keeper n) k = Err (fault.IndexRange 0 0)
channel_of d (denoted.Memory m) k = Err (fault.IndexRange 0 0)
channel_of d (denoted.Variable v) k = Err (fault.IndexRange 0 0)
channel_of d (denoted.Port n) k = port_channel (slice_get d.ports n) (unwrap_or k 0)
channel_of d (denoted.Process p) k = Err (fault.IndexRange 0 0)
channel_of d (denoted.Socket hop forward) k = Err (fault.IndexRange 0 0)

abbrev pub channel_here : Here → ℕ → Option ℕ → Result ChannelId RunFault
channel_here h n k = channel_of h.config.design (denotes h n) k

abbrev pub signal_value : Option Signal → Value
signal_value None = value.Bool false
signal_value (Some s) = s.value

abbrev pub resolved_value : Option Driven → Value
resolved_value None = value.Bool false
resolved_value (Some r) = value.Logic r.value

-- the value of a channel that has one
abbrev pub channel_value : Config → ChannelId → Value
channel_value c (channel.Signal n events) = signal_value (slice_get c.channels.signals n)
channel_value c (channel.Resolved n events) = resolved_value (slice_get c.channels.resolved n)
channel_value c (channel.Fifo n events) = value.Bool false
channel_value c (channel.Mutex n events) = value.Bool false
channel_value c (channel.Semaphore n events) = value.Bool false

abbrev pub channel_changed : Config → ChannelId → Bool
channel_changed c (channel.Signal n events) = unwrap_or (slice_get c.channels.changed n) false
channel_changed c (channel.Resolved n events) = unwrap_or (slice_get c.channels.resolved_changed n) false
channel_changed c (channel.Fifo n events) = false
channel_changed c (channel.Mutex n events) = false
channel_changed c (channel.Semaphore n events) = false

abbrev pub fifo_number : (Queued → ℕ) → Option Queued → ℕ
fifo_number f None = 0
fifo_number f (Some q) = f q

abbrev pub of_fifo : (Queued → ℕ) → Config → ChannelId → ℕ
of_fifo f c (channel.Signal n events) = 0
of_fifo f c (channel.Resolved n events) = 0
of_fifo f c (channel.Fifo n events) = fifo_number f (slice_get c.channels.fifos n)
of_fifo f c (channel.Mutex n events) = 0
of_fifo f c (channel.Semaphore n events) = 0

abbrev pub semaphore_value : Config → ChannelId → ℕ
semaphore_value c (channel.Signal n events) = 0
semaphore_value c (channel.Resolved n events) = 0
semaphore_value c (channel.Fifo n events) = 0
semaphore_value c (channel.Mutex n events) = 0
semaphore_value c (channel.Semaphore n events) = unwrap_or (slice_get c.channels.semaphores n) 0

-- names

abbrev pub local_value : Here → ℕ → Value
local_value h i = unwrap_or (slice_get h.locals i) (value.Bool false)

abbrev pub variable_value : Here → ℕ → Value
variable_value h v = unwrap_or (slice_get h.config.store.variables v) (value.Bool false)

-- what a declared name is as a value: a channel is read, and a process is its handle
abbrev pub read_denoted : Here → Denoted → Result Value RunFault
read_denoted h denoted.Nothing = Ok (value.Bool false)
read_denoted h (denoted.Channel ch) = Ok (channel_value h.config ch)
read_denoted h (denoted.Event e) = Ok (value.Bool false)
read_denoted h (denoted.Keeper k) = Ok (value.Bool false)
read_denoted h (denoted.Memory m) = Ok (value.Bool false)
read_denoted h (denoted.Variable v) = Ok (variable_value h v)
read_denoted h (denoted.Port n) = on_ok (channel_of h.config.design (denoted.Port n) None) (λ ch. Ok (channel_value h.config ch))
read_denoted h (denoted.Process p) = Ok (value.Handle (Some p))
read_denoted h (denoted.Socket hop forward) = Ok (value.Bool false)

abbrev pub read_name : Here → NameUse → Result Value RunFault
read_name h (name_use.Local i) = Ok (local_value h i)
read_name h (name_use.Declared n) = read_denoted h (denotes h n)

abbrev pub handle_in : Result Value RunFault → (Value → Option ℕ) → Option ℕ
handle_in (Ok v) f = f v
handle_in (Err e) f = None

-- the handle of a process, or of a payload, that a name holds
abbrev pub process_of : Here → NameUse → Option ℕ
process_of h n = handle_in (read_name h n) process_handle

abbrev pub payload_handle_of : Here → NameUse → Option ℕ
payload_handle_of h n = handle_in (read_name h n) payload_handle

-- a use of a handle: of the empty one it is a fault
abbrev pub not_empty : Option ℕ → Result ℕ RunFault
not_empty None = Err fault.EmptyHandle
not_empty (Some n) = Ok n

abbrev pub not_freed : ℕ → Option Payload → Result Payload RunFault
not_freed t None = Err (fault.PayloadFreed t)
not_freed t (Some p) = Ok p

-- the number of the payload that a name holds, and the live payload itself
abbrev pub payload_number : Here → NameUse → Result ℕ RunFault
payload_number h n = not_empty (payload_handle_of h n)

abbrev pub live_payload : Config → ℕ → Result Payload RunFault
live_payload c t = not_freed t (payload_of c.transactions.pool t)

abbrev pub payload_here : Here → NameUse → Result Payload RunFault
payload_here h n = on_ok (payload_number h n) (live_payload h.config)

-- members

abbrev pub has_ended : Option Instance → Bool
has_ended None = false
has_ended (Some i) = i.ended

abbrev pub field_value : PayloadField → Payload → Value
field_value field.Command p = signed (bits_of p.command)
field_value field.Status p = signed (bits_of p.status)
field_value field.Address p = unsigned p.address
field_value field.Width p = unsigned p.width

abbrev pub channel_member : Config → Member → ChannelId → Value
channel_member c member.Changed ch = bool_value (channel_changed c ch)
channel_member c member.Available ch = unsigned (of_fifo available c ch)
channel_member c member.Free ch = unsigned (of_fifo free c ch)
channel_member c member.Value ch = unsigned (semaphore_value c ch)
channel_member c member.Valid ch = value.Bool false
channel_member c member.Terminated ch = value.Bool false
channel_member c member.Live ch = value.Bool false
channel_member c (member.Field f) ch = value.Bool false
channel_member c member.Length ch = value.Bool false
channel_member c member.EnableLength ch = value.Bool false
channel_member c member.Local ch = value.Bool false
channel_member c member.Next ch = value.Bool false
channel_member c member.NeedSync ch = value.Bool false

abbrev pub member_of_channel : Here → NameUse → Member → Result Value RunFault
member_of_channel h (name_use.Local i) m = Ok (value.Bool false)
member_of_channel h (name_use.Declared n) m = on_ok (channel_here h n None) (λ ch. Ok (channel_member h.config m ch))

abbrev pub keeper_number : Denoted → Option ℕ
keeper_number denoted.Nothing = None
keeper_number (denoted.Channel ch) = None
keeper_number (denoted.Event e) = None
keeper_number (denoted.Keeper k) = Some k
keeper_number (denoted.Memory m) = None
keeper_number (denoted.Variable v) = None
keeper_number (denoted.Port n) = None
keeper_number (denoted.Process p) = None
keeper_number (denoted.Socket hop forward) = None

abbrev pub keeper_at : Config → Option ℕ → Option Keeper
keeper_at c None = None
keeper_at c (Some k) = slice_get c.quantum.keepers k

abbrev pub keeper_here : Here → NameUse → Option Keeper
keeper_here h (name_use.Local i) = None
keeper_here h (name_use.Declared n) = keeper_at h.config (keeper_number (denotes h n))

abbrev pub sync_needed : Option Bool → Result Value RunFault
sync_needed None = Err fault.TimeOverflow
sync_needed (Some b) = Ok (bool_value b)

abbrev pub keeper_member : ℕ → Member → Option Keeper → Result Value RunFault
keeper_member now m None = Ok (value.Bool false)
keeper_member now member.Changed (Some k) = Ok (value.Bool false)
keeper_member now member.Available (Some k) = Ok (value.Bool false)
keeper_member now member.Free (Some k) = Ok (value.Bool false)
keeper_member now member.Value (Some k) = Ok (value.Bool false)
keeper_member now member.Valid (Some k) = Ok (value.Bool false)
keeper_member now member.Terminated (Some k) = Ok (value.Bool false)
keeper_member now member.Live (Some k) = Ok (value.Bool false)
keeper_member now (member.Field f) (Some k) = Ok (value.Bool false)
keeper_member now member.Length (Some k) = Ok (value.Bool false)
keeper_member now member.EnableLength (Some k) = Ok (value.Bool false)
keeper_member now member.Local (Some k) = Ok (value.Moment k.local.0)
keeper_member now member.Next (Some k) = Ok (value.Moment k.next.0)
keeper_member now member.NeedSync (Some k) = sync_needed (must_sync k now)

abbrev pub is_live : Config → Option ℕ → Bool
is_live c None = false
is_live c (Some t) = is_some (payload_of c.transactions.pool t)

-- `.valid` and `.live` are no use of a handle; any other member is
abbrev pub member_value : Here → NameUse → Member → Result Value RunFault
member_value h n member.Changed = member_of_channel h n member.Changed
member_value h n member.Available = member_of_channel h n member.Available
member_value h n member.Free = member_of_channel h n member.Free
member_value h n member.Value = member_of_channel h n member.Value
member_value h n member.Valid = Ok (bool_value (is_some (process_of h n)))
member_value h n member.Terminated = on_ok (not_empty (process_of h n)) (λ p. Ok (bool_value (has_ended (instance_at h.config p))))
member_value h n member.Live = Ok (bool_value (is_live h.config (payload_handle_of h n)))
member_value h n (member.Field f) = on_ok (payload_here h n) (λ p. Ok (field_value f p))
member_value h n member.Length = on_ok (payload_here h n) (λ p. Ok (unsigned (length p.bytes)))
member_value h n member.EnableLength = on_ok (payload_here h n) (λ p. Ok (unsigned (length p.enables)))
member_value h n member.Local = keeper_member h.config.cycle.now member.Local (keeper_here h n)
member_value h n member.Next = keeper_member h.config.cycle.now member.Next (keeper_here h n)
member_value h n member.NeedSync = keeper_member h.config.cycle.now member.NeedSync (keeper_here h n)

-- elements

abbrev pub byte_in : List ℕ → ℕ → Result Value RunFault
byte_in xs i = on_ok (index_within i (length xs)) (λ n. Ok (unsigned (unwrap_or (slice_get xs n) 0)))

abbrev pub memory_number : Denoted → Option ℕ
memory_number denoted.Nothing = None
memory_number (denoted.Channel ch) = None
memory_number (denoted.Event e) = None
memory_number (denoted.Keeper k) = None
memory_number (denoted.Memory m) = Some m
memory_number (denoted.Variable v) = None
memory_number (denoted.Port n) = None
memory_number (denoted.Process p) = None
memory_number (denoted.Socket hop forward) = None

abbrev pub memory_at : Config → Option ℕ → List ℕ
memory_at c None = []
memory_at c (Some m) = unwrap_or (slice_get c.store.memories m) []

abbrev pub memory_here : Here → ℕ → List ℕ
memory_here h n = memory_at h.config (memory_number (denotes h n))

abbrev pub payload_bytes : PayloadBytes → Payload → List ℕ
payload_bytes bytes_of.Data p = p.bytes
payload_bytes bytes_of.ByteEnable p = p.enables

-- expressions

-- the value of a read widens to 64 bits
abbrev pub read_wide : Result Value RunFault → Result Value RunFault
read_wide v = on_ok v (λ x. Ok (widened x))

-- From left to right, the first fault counts. A chain of a name, a place and indices is taken piece by piece: the place, and
-- then the channel of the port there; the index of an element, and then the element; each further index behind what stands
-- left of it, and then that digit.
abbrev pub val : Here → Term → Result Value RunFault
val h (code.literal v) = Ok v
val h code.now = Ok (value.Moment h.config.cycle.now)
val h code.myself = Ok (value.Handle (Some h.serial))
val h (code.name n) = read_wide (read_name h n)
val h (code.placed n e) = on_ok (val h e) (λ k. on_ok (channel_here h n (Some (bits k))) (λ ch. Ok (widened (channel_value h.config ch))))
val h (code.member n m) = member_value h n m
val h (code.placed_member n e m) = on_ok (val h e) (λ k. on_ok (channel_here h n (Some (bits k))) (λ ch. Ok (channel_member h.config m ch)))
val h (code.element n e) = on_ok (val h e) (λ i. byte_in (memory_here h n) (bits i))
val h (code.payload_byte n b e) = on_ok (val h e) (λ i. on_ok (payload_here h n) (λ p. byte_in (payload_bytes b p) (bits i)))
val h (code.digit t e i) = on_ok (val h e) (λ v. on_ok (val h i) (λ k. digit_at t v (bits k)))
val h (code.digits t e high low) = on_ok (val h e) (λ v. Ok (digits_between t v high low))
val h (code.unary o t e) = on_ok (val h e) (λ v. Ok (unary o t v))
val h (code.binary o t l r) = on_ok (val h l) (λ x. if decides o x then Ok (bool_value (truth x)) else on_ok (val h r) (λ y. binary o t x y))
val h (code.convert to from e) = on_ok (val h e) (λ v. Ok (converted to from v))
val h (code.concat u l) = on_ok (val h u) (λ x. on_ok (val h l) (λ y. Ok (joined_digits x y)))

-- expressions one after another, and what may be written or not
abbrev pub vals : Here → List Term → Result (List Value) RunFault
vals h [] = Ok []
vals h (e ∷ es) = on_ok (val h e) (λ v. on_ok (vals h es) (λ vs. Ok (v ∷ vs)))

abbrev pub val_if : Here → Option Term → Result (Option Value) RunFault
val_if h None = Ok None
val_if h (Some e) = on_ok (val h e) (λ v. Ok (Some v))

-- the place of a port, where one is written
abbrev pub place_in : Here → Option Term → Result (Option ℕ) RunFault
place_in h None = Ok None
place_in h (Some e) = on_ok (val h e) (λ v. Ok (Some (bits v)))
