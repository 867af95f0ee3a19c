-- What each form of statement, expression and target uses, as far as the rule on the order of processes asks: first by the names of
-- the module that it stands in, and then in an instance of that module.
use Rattle.std.specs.Prelude.{ℕ, List, [], ◌∷◌, ◌++◌, slice_get, Option, Some, None}
use Rattle.std.specs.List.{flat_map}
use Rattle.flat_design.specs.EventCore.declared.event.Ev.{Ev}
use Rattle.flat_design.specs.EventCore.declared.event.Ev.TheVariants as ev
use Rattle.flat_design.specs.Code as code
use Rattle.flat_design.specs.Code.{Term, ChannelTerm, EventTerm, AwaitTerm, ArgumentTerm, DestinationTerm, Statement}
use Rattle.flat_design.specs.Denotes.{denoted_at}
use Rattle.flat_design.specs.declared.names.NameUse.{NameUse}
use Rattle.flat_design.specs.declared.names.NameUse.TheVariants as name_use
use Rattle.flat_design.specs.declared.names.Member.{Member}
use Rattle.flat_design.specs.declared.names.Member.TheVariants as member
use Rattle.flat_design.specs.declared.names.EventMember.{EventMember}
use Rattle.flat_design.specs.declared.names.EventMember.TheVariants as event
use Rattle.flat_design.specs.declared.code.Store.{Store}
use Rattle.flat_design.specs.declared.design.ChannelId.{ChannelId}
use Rattle.flat_design.specs.declared.design.ChannelId.TheVariants as channel
use Rattle.flat_design.specs.declared.design.Denoted.{Denoted}
use Rattle.flat_design.specs.declared.design.Denoted.TheVariants as denoted
use Rattle.flat_design.specs.declared.design.PortPart.{PortPart}
use Rattle.flat_design.specs.declared.design.Design.{Design}
use Rattle.order_free.specs.declared.uses.Deed.{Deed}
use Rattle.order_free.specs.declared.uses.Deed.TheVariants as deed
use Rattle.order_free.specs.declared.uses.Use.{Use}
use Rattle.order_free.specs.declared.uses.Use.TheVariants as used

-- by names

abbrev pub deeds_of_name : NameUse → List Deed
deeds_of_name (name_use.Local i) = []
deeds_of_name (name_use.Declared n) = deed.Keeps n ∷ []

-- a member of a process, and what is available or free in a fifo, are watched; a semaphore is shared by nature
abbrev pub deeds_of_member : Member → List Deed
deeds_of_member member.Changed = []
deeds_of_member member.Available = deed.Watches ∷ []
deeds_of_member member.Free = deed.Watches ∷ []
deeds_of_member member.Value = deed.Unfit ∷ []
deeds_of_member member.Valid = deed.Watches ∷ []
deeds_of_member member.Terminated = deed.Watches ∷ []
deeds_of_member member.Live = []
deeds_of_member (member.Field f) = []
deeds_of_member member.Length = []
deeds_of_member member.EnableLength = []
deeds_of_member member.Local = []
deeds_of_member member.Next = []
deeds_of_member member.NeedSync = []

abbrev pub deeds_of_term : Term → List Deed
deeds_of_term (code.literal v) = []
deeds_of_term code.now = []
deeds_of_term code.myself = []
deeds_of_term (code.name n) = deeds_of_name n
deeds_of_term (code.placed n e) = deeds_of_term e
deeds_of_term (code.member n m) = deeds_of_name n ++ deeds_of_member m
deeds_of_term (code.placed_member n e m) = deeds_of_term e ++ deeds_of_member m
deeds_of_term (code.element n e) = deed.Keeps n ∷ deeds_of_term e
deeds_of_term (code.payload_byte n b e) = deeds_of_name n ++ deeds_of_term e
deeds_of_term (code.digit t e i) = deeds_of_term e ++ deeds_of_term i
deeds_of_term (code.digits t e high low) = deeds_of_term e
deeds_of_term (code.unary o t e) = deeds_of_term e
deeds_of_term (code.binary o t l r) = deeds_of_term l ++ deeds_of_term r
deeds_of_term (code.convert to from e) = deeds_of_term e
deeds_of_term (code.concat u l) = deeds_of_term u ++ deeds_of_term l

-- an expression that may be written
abbrev pub deeds_of_written : Option Term → List Deed
deeds_of_written None = []
deeds_of_written (Some e) = deeds_of_term e

-- a variable that may get a value
abbrev pub deeds_of_store : Option Store → List Deed
deeds_of_store None = []
deeds_of_store (Some x) = deeds_of_name x.name

abbrev pub deeds_of_read : ChannelTerm → List Deed
deeds_of_read ch = deed.Reads ch.channel_name ∷ deeds_of_written ch.place

abbrev pub deeds_of_write : ChannelTerm → List Deed
deeds_of_write ch = deed.Writes ch.channel_name ∷ deeds_of_written ch.place

abbrev pub deeds_of_event_member : EventMember → List Deed
deeds_of_event_member event.Own = []
deeds_of_event_member event.Posedge = []
deeds_of_event_member event.Negedge = []
deeds_of_event_member event.DataWritten = []
deeds_of_event_member event.DataRead = []
deeds_of_event_member event.Terminated = deed.Watches ∷ []
deeds_of_event_member event.Reset = deed.Watches ∷ []

abbrev pub deeds_of_event : EventTerm → List Deed
deeds_of_event e = (deeds_of_name e.event_name ++ deeds_of_written e.place) ++ deeds_of_event_member e.event

abbrev pub deeds_of_await : AwaitTerm → List Deed
deeds_of_await code.static = []
deeds_of_await code.delta = []
deeds_of_await (code.for_ e) = deeds_of_term e
deeds_of_await (code.any es t) = flat_map deeds_of_event es ++ deeds_of_written t
deeds_of_await (code.all es t) = flat_map deeds_of_event es ++ deeds_of_written t

abbrev pub deeds_of_argument : ArgumentTerm → List Deed
deeds_of_argument (code.by_value e) = deeds_of_term e
deeds_of_argument (code.inout n) = deeds_of_name n

-- what gets an assigned value; a payload is shared by nature
abbrev pub deeds_of_destination : DestinationTerm → List Deed
deeds_of_destination (code.to_name x) = deeds_of_name x.name
deeds_of_destination (code.to_field n f) = deed.Unfit ∷ []
deeds_of_destination (code.to_element n e) = deed.Keeps n ∷ deeds_of_term e
deeds_of_destination (code.to_payload_byte n b e) = deed.Unfit ∷ deeds_of_term e

-- a statement, without its blocks, and without what it calls
abbrev pub deeds_of : Statement → List Deed
deeds_of (code.var i t e) = deeds_of_written e
deeds_of (code.assign to e) = deeds_of_destination to ++ deeds_of_term e
deeds_of (code.call x f arguments) = flat_map deeds_of_argument arguments ++ deeds_of_store x
deeds_of (code.read x ch) = deeds_of_read ch ++ deeds_of_store x
deeds_of (code.nb_read x ch y) = (deeds_of_read ch ++ deeds_of_store x) ++ deeds_of_name y.name
deeds_of (code.nb_write x ch t e) = (deeds_of_write ch ++ deeds_of_term e) ++ deeds_of_store x
deeds_of (code.trylock x ch) = deed.Unfit ∷ []
deeds_of (code.unlock x ch) = deed.Unfit ∷ []
deeds_of (code.sem_trywait x ch) = deed.Unfit ∷ []
deeds_of (code.nb_transport x s p phase delay) = deed.Unfit ∷ []
deeds_of (code.write ch t e) = deeds_of_write ch ++ deeds_of_term e
deeds_of (code.print text e) = deeds_of_written e
deeds_of (code.notify n) = deed.Unfit ∷ []
deeds_of (code.notify_delta n) = deed.Notifies n ∷ []
deeds_of (code.notify_after n e) = deed.Notifies n ∷ deeds_of_term e
deeds_of (code.cancel n) = deed.Cancels n ∷ []
deeds_of (code.wait w) = deeds_of_await w
deeds_of (code.next_trigger w) = deeds_of_await w
deeds_of (code.lock ch) = deed.Unfit ∷ []
deeds_of (code.sem_wait ch) = deed.Unfit ∷ []
deeds_of (code.post ch) = deed.Unfit ∷ []
deeds_of (code.make p n enables) = deed.Unfit ∷ []
deeds_of (code.acquire p) = deed.Unfit ∷ []
deeds_of (code.release p) = deed.Unfit ∷ []
deeds_of (code.carry p m) = deed.Unfit ∷ []
deeds_of (code.b_transport s p delay) = deed.Unfit ∷ []
deeds_of (code.qk_global e) = deed.Quantum ∷ deeds_of_term e
deeds_of (code.qk_inc n e) = deed.Quantum ∷ deeds_of_term e
deeds_of (code.qk_set n e) = deed.Quantum ∷ deeds_of_term e
deeds_of (code.qk_reset n) = deed.Quantum ∷ []
deeds_of (code.spawn s) = deed.Unfit ∷ []
deeds_of (code.control k who all) = deed.Unfit ∷ []
deeds_of (code.throw_it who n all) = deed.Unfit ∷ []
deeds_of (code.throw n) = []
deeds_of (code.return_ e) = deeds_of_written e
deeds_of code.stop = deed.Unfit ∷ []
deeds_of (code.if_ e b other) = deeds_of_term e
deeds_of (code.while_ e b) = deeds_of_term e
deeds_of (code.guard b u) = []
deeds_of (code.try_ b handlers) = []

-- in an instance of the module

-- what is kept under a name: a variable or a memory, or a keeper, which counts as the one quantum
abbrev pub kept_under : Denoted → List Use
kept_under denoted.Nothing = []
kept_under (denoted.Channel ch) = []
kept_under (denoted.Event e) = []
kept_under (denoted.Keeper k) = used.Quantum ∷ []
kept_under (denoted.Memory m) = used.Memory m ∷ []
kept_under (denoted.Variable v) = used.Variable v ∷ []
kept_under (denoted.Port n) = []
kept_under (denoted.Process p) = []
kept_under (denoted.Socket hop forward) = []

abbrev pub channels_of_port : Option PortPart → List ChannelId
channels_of_port None = []
channels_of_port (Some p) = p.channels

-- the channels under a name: of a port all, whatever the place that is written
abbrev pub channels_under : Design → Denoted → List ChannelId
channels_under d denoted.Nothing = []
channels_under d (denoted.Channel ch) = ch ∷ []
channels_under d (denoted.Event e) = []
channels_under d (denoted.Keeper k) = []
channels_under d (denoted.Memory m) = []
channels_under d (denoted.Variable v) = []
channels_under d (denoted.Port n) = channels_of_port (slice_get d.ports n)
channels_under d (denoted.Process p) = []
channels_under d (denoted.Socket hop forward) = []

abbrev pub written_to : ChannelId → List Use
written_to (channel.Signal n events) = used.WritesSignal n ∷ []
written_to (channel.Resolved n events) = []
written_to (channel.Fifo n events) = used.WritesFifo n ∷ []
written_to (channel.Mutex n events) = []
written_to (channel.Semaphore n events) = []

abbrev pub read_from : ChannelId → List Use
read_from (channel.Signal n events) = []
read_from (channel.Resolved n events) = []
read_from (channel.Fifo n events) = used.ReadsFifo n ∷ []
read_from (channel.Mutex n events) = []
read_from (channel.Semaphore n events) = []

-- the event under a name, as it is used
abbrev pub events_under : (ℕ → Use) → Denoted → List Use
events_under how denoted.Nothing = []
events_under how (denoted.Channel ch) = []
events_under how (denoted.Event e) = how e ∷ []
events_under how (denoted.Keeper k) = []
events_under how (denoted.Memory m) = []
events_under how (denoted.Variable v) = []
events_under how (denoted.Port n) = []
events_under how (denoted.Process p) = []
events_under how (denoted.Socket hop forward) = []

abbrev pub uses_of_deed : Design → ℕ → Deed → List Use
uses_of_deed d home deed.Unfit = used.Unfit ∷ []
uses_of_deed d home deed.Watches = used.Watches ∷ []
uses_of_deed d home deed.Quantum = used.Quantum ∷ []
uses_of_deed d home (deed.Keeps n) = kept_under (denoted_at d home n)
uses_of_deed d home (deed.Writes n) = flat_map written_to (channels_under d (denoted_at d home n))
uses_of_deed d home (deed.Reads n) = flat_map read_from (channels_under d (denoted_at d home n))
uses_of_deed d home (deed.Notifies n) = events_under (λ e. used.Notifies e) (denoted_at d home n)
uses_of_deed d home (deed.Cancels n) = events_under (λ e. used.Cancels e) (denoted_at d home n)

-- what a statement uses in this instance of its module
abbrev pub uses_of : Design → ℕ → Statement → List Use
uses_of d home s = flat_map (uses_of_deed d home) (deeds_of s)

-- what a static sensitivity to an event uses
abbrev pub uses_of_event : Ev → List Use
uses_of_event (ev.Fixed e) = []
uses_of_event (ev.Terminated p) = used.Watches ∷ []
uses_of_event (ev.Restarted p) = used.Watches ∷ []
