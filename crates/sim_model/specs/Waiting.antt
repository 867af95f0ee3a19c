-- Statements of waits and events (IEEE 1666-2011, 5.2.17, 5.2.18 and 5.10).
use Rattle.std.specs.Prelude.{ℕ, ◌+◌, ◌==◌, true, List, [], ◌∷◌, Option, Some, None, Result, Ok, Err, if◌then◌else◌}
use Rattle.flat_design.specs.EventCore.declared.event.Ev.{Ev}
use Rattle.flat_design.specs.EventCore.declared.event.Ev.TheVariants as ev
use Rattle.flat_design.specs.EventCore.declared.notifications.When.{When}
use Rattle.flat_design.specs.EventCore.declared.notifications.When.TheVariants as when
use Rattle.flat_design.specs.EventCore.declared.notifications.Pending.TheVariants as pending
use Rattle.flat_design.specs.Code as code
use Rattle.flat_design.specs.Code.{Term, EventTerm, AwaitTerm}
use Rattle.flat_design.specs.declared.names.NameUse.{NameUse}
use Rattle.flat_design.specs.declared.names.NameUse.TheVariants as name_use
use Rattle.flat_design.specs.declared.names.EventMember.{EventMember}
use Rattle.flat_design.specs.declared.names.EventMember.TheVariants as event
use Rattle.flat_design.specs.declared.design.ChannelId.{ChannelId}
use Rattle.flat_design.specs.declared.design.ChannelId.TheVariants as channel
use Rattle.flat_design.specs.declared.design.Denoted.{Denoted}
use Rattle.flat_design.specs.declared.design.Denoted.TheVariants as denoted
use Rattle.flat_design.specs.declared.faults.RunFault.{RunFault}
use Rattle.flat_design.specs.declared.faults.RunFault.TheVariants as fault
use Rattle.sim_model.specs.Values.{on_ok, moment, time_within}
use Rattle.sim_model.specs.Residual.{Residual}
use Rattle.sim_model.specs.Configuration.{Config, Wait, waits_statically, waits_for_any, waits_for_all, Deadline, no_deadline, next_delta, Trigger, change, change_instance}
use Rattle.sim_model.specs.Waits.{once, fire, waits, notify, deadline_in}
use Rattle.sim_model.specs.Reading.{Here, denotes, channel_of, process_of, not_empty, val, place_in}
use Rattle.sim_model.specs.Storing.{passes}

-- events

abbrev pub first_event : ChannelId → ℕ
first_event (channel.Signal n events) = events
first_event (channel.Resolved n events) = events
first_event (channel.Fifo n events) = events
first_event (channel.Mutex n events) = events
first_event (channel.Semaphore n events) = events

-- which of a channel's events: a signal's are value changed, a change to 1 and a change to 0; a fifo's are data written and
-- data read
abbrev pub event_offset : EventMember → ℕ
event_offset event.Own = 0
event_offset event.Posedge = 1
event_offset event.Negedge = 2
event_offset event.DataWritten = 0
event_offset event.DataRead = 1
event_offset event.Terminated = 0
event_offset event.Reset = 0

abbrev pub channel_event : EventMember → ChannelId → Ev
channel_event e ch = ev.Fixed (first_event ch + event_offset e)

-- an event of what a declared name stands for: its own, or that of a channel
abbrev pub object_event : Here → EventMember → Option ℕ → Denoted → Result Ev RunFault
object_event h e k denoted.Nothing = on_ok (channel_of h.config.design denoted.Nothing k) (λ ch. Ok (channel_event e ch))
object_event h e k (denoted.Channel ch) = Ok (channel_event e ch)
object_event h e k (denoted.Event n) = Ok (ev.Fixed n)
object_event h e k (denoted.Keeper n) = on_ok (channel_of h.config.design (denoted.Keeper n) k) (λ ch. Ok (channel_event e ch))
object_event h e k (denoted.Memory n) = on_ok (channel_of h.config.design (denoted.Memory n) k) (λ ch. Ok (channel_event e ch))
object_event h e k (denoted.Variable n) = on_ok (channel_of h.config.design (denoted.Variable n) k) (λ ch. Ok (channel_event e ch))
object_event h e k (denoted.Port n) = on_ok (channel_of h.config.design (denoted.Port n) k) (λ ch. Ok (channel_event e ch))
object_event h e k (denoted.Process p) = on_ok (channel_of h.config.design (denoted.Process p) k) (λ ch. Ok (channel_event e ch))
object_event h e k (denoted.Socket hop forward) = on_ok (channel_of h.config.design (denoted.Socket hop forward) k) (λ ch. Ok (channel_event e ch))

abbrev pub named_object_event : Here → EventMember → Option ℕ → NameUse → Result Ev RunFault
named_object_event h e k (name_use.Local n) = Err fault.EmptyHandle
named_object_event h e k (name_use.Declared n) = object_event h e k (denotes h n)

-- the event that a statement names, its place evaluated
abbrev pub event_of : Here → NameUse → Option ℕ → EventMember → Result Ev RunFault
event_of h n k event.Own = named_object_event h event.Own k n
event_of h n k event.Posedge = named_object_event h event.Posedge k n
event_of h n k event.Negedge = named_object_event h event.Negedge k n
event_of h n k event.DataWritten = named_object_event h event.DataWritten k n
event_of h n k event.DataRead = named_object_event h event.DataRead k n
event_of h n k event.Terminated = on_ok (not_empty (process_of h n)) (λ p. Ok (ev.Terminated p))
event_of h n k event.Reset = on_ok (not_empty (process_of h n)) (λ p. Ok (ev.Restarted p))

-- the places of events, evaluated in order, and then the events
abbrev pub places_in : Here → List EventTerm → Result (List (Option ℕ)) RunFault
places_in h [] = Ok []
places_in h (e ∷ es) = on_ok (place_in h e.place) (λ k. on_ok (places_in h es) (λ ks. Ok (k ∷ ks)))

abbrev pub events_at : Here → List EventTerm → List (Option ℕ) → Result (List Ev) RunFault
events_at h [] ks = Ok []
events_at h (e ∷ es) [] = Ok []
events_at h (e ∷ es) (k ∷ ks) = on_ok (event_of h e.event_name k e.event) (λ x. on_ok (events_at h es ks) (λ xs. Ok (x ∷ xs)))

-- a time-out, where one is written
abbrev pub time_if : Here → Option Term → Result (Option ℕ) RunFault
time_if h None = Ok None
time_if h (Some e) = on_ok (val h e) (λ v. Ok (Some (moment v)))

abbrev pub deadline_if : ℕ → Option ℕ → Result Deadline RunFault
deadline_if now None = Ok no_deadline
deadline_if now (Some t) = deadline_in now t

abbrev pub awaits : Here → (List Ev → Wait) → List EventTerm → Option Term → Result Trigger RunFault
awaits h how es t =
    on_ok (places_in h es) (λ ks. on_ok (time_if h t) (λ u. on_ok (events_at h es ks) (λ xs. on_ok (deadline_if h.config.cycle.now u) (λ d.
    Ok (record { wait = how xs; deadline = d })))))

-- how a wait or a next trigger waits: in a wait for all, an event that is named twice counts once
abbrev pub awaited : Here → AwaitTerm → Result Trigger RunFault
awaited h code.static = Ok (record { wait = waits_statically; deadline = no_deadline })
awaited h code.delta = Ok (record { wait = waits_for_any []; deadline = next_delta })
awaited h (code.for_ e) = on_ok (val h e) (λ v. on_ok (deadline_in h.config.cycle.now (moment v)) (λ d. Ok (record { wait = waits_for_any []; deadline = d })))
awaited h (code.any es t) = awaits h waits_for_any es t
awaited h (code.all es t) = awaits h (λ xs. waits_for_all (once xs)) es t

-- a wait is past, and the instance leaves the stack
abbrev pub do_wait : Config → ℕ → Residual → Here → AwaitTerm → Result Config RunFault
do_wait c p r h w = on_ok (awaited h w) (λ t. Ok (waits (passes c p r) p t.wait t.deadline))

-- the last next trigger of a turn counts
abbrev pub do_next_trigger : Config → ℕ → Residual → Here → AwaitTerm → Result Config RunFault
do_next_trigger c p r h w = on_ok (awaited h w) (λ t. Ok (change_instance (passes c p r) p (λ i. record i { trigger = Some t })))

-- notifications of events of the module

abbrev pub event_number : Denoted → Option ℕ
event_number denoted.Nothing = None
event_number (denoted.Channel ch) = None
event_number (denoted.Event e) = Some e
event_number (denoted.Keeper k) = None
event_number (denoted.Memory m) = None
event_number (denoted.Variable v) = None
event_number (denoted.Port n) = None
event_number (denoted.Process p) = None
event_number (denoted.Socket hop forward) = None

abbrev pub on_event : Config → Option ℕ → (ℕ → Config) → Config
on_event c None f = c
on_event c (Some e) f = f e

-- an immediate notification takes the pending one away, and fires
abbrev pub notified_now : Config → ℕ → Config
notified_now c e = fire (notify c e when.Immediate) (ev.Fixed e)

abbrev pub do_notify : Config → ℕ → Residual → Here → ℕ → Result Config RunFault
do_notify c p r h n = Ok (on_event (passes c p r) (event_number (denotes h n)) (notified_now (passes c p r)))

abbrev pub do_notify_delta : Config → ℕ → Residual → Here → ℕ → Result Config RunFault
do_notify_delta c p r h n = Ok (on_event (passes c p r) (event_number (denotes h n)) (λ e. notify (passes c p r) e when.Delta))

-- after a time of 0 it is a delta notification
abbrev pub when_after : ℕ → ℕ → Result When RunFault
when_after now t = if t == 0 then Ok when.Delta else on_ok (time_within (now + t)) (λ u. Ok (when.At (record { 0 = u })))

abbrev pub do_notify_after : Config → ℕ → Residual → Here → ℕ → Term → Result Config RunFault
do_notify_after c p r h n e =
    on_ok (val h e) (λ v. on_ok (when_after c.cycle.now (moment v)) (λ w. Ok (on_event (passes c p r) (event_number (denotes h n)) (λ x. notify (passes c p r) x w))))

abbrev pub cancelled : Config → ℕ → Config
cancelled c e = record c { events = change c.events e (λ x. pending.Nothing) }

abbrev pub do_cancel : Config → ℕ → Residual → Here → ℕ → Result Config RunFault
do_cancel c p r h n = Ok (on_event (passes c p r) (event_number (denotes h n)) (cancelled (passes c p r)))

-- the model asks the session to stop behind the update phase that ends this evaluation phase
abbrev pub do_stop : Config → ℕ → Residual → Result Config RunFault
do_stop c p r = let d = passes c p r in Ok (record d { cycle = record d.cycle { stop_asked = true } })
