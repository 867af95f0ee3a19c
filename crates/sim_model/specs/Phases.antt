-- The phases of the scheduler (IEEE 1666-2011, 4.2.1): initialization, update, delta and timed notification.
use Rattle.std.specs.Prelude.{ℕ, suc, ◌+◌, ◌==◌, Bool, true, false, nat_lt, List, [], ◌∷◌, ◌++◌, map, slice_get, unwrap_or, Option, Some, None, if◌then◌else◌}
use Rattle.signal_channel.specs.LogicValues.declared.kinds.Value.{Value}
use Rattle.flat_design.specs.EventCore.declared.event.Ev.{Ev}
use Rattle.flat_design.specs.EventCore.declared.event.Ev.TheVariants as ev
use Rattle.flat_design.specs.EventCore.declared.notifications.Pending.{Pending}
use Rattle.flat_design.specs.EventCore.declared.notifications.Pending.TheVariants as pending
use Rattle.flat_design.specs.EventCore.declared.notifications.When.TheVariants as when
use Rattle.signal_channel.specs.Signals.{settled, change_of}
use Rattle.signal_channel.specs.Drivers.{Driven, resettled, edges}
use Rattle.signal_channel.specs.declared.signal.Signal.{Signal}
use Rattle.signal_channel.specs.declared.signal.Changed.{Changed}
use Rattle.fifo_sync.specs.Fifos.{Queued, after_update}
use Rattle.flat_design.specs.declared.design.SignalPart.{SignalPart}
use Rattle.flat_design.specs.declared.design.ResolvedPart.{ResolvedPart}
use Rattle.flat_design.specs.declared.design.FifoPart.{FifoPart}
use Rattle.flat_design.specs.declared.design.ProcessPart.{ProcessPart}
use Rattle.flat_design.specs.declared.design.Visible.{Visible}
use Rattle.flat_design.specs.declared.design.VisibleId.{VisibleId}
use Rattle.flat_design.specs.declared.design.VisibleId.TheVariants as visible_id
use Rattle.sim_model.specs.Configuration.{Config, Instance, Channels, Deadline, no_deadline, next_delta, at_time, change_instance, with_phase, with_runnable}
use Rattle.sim_model.specs.Waits.{fire_all, wake_all, freed, notify}
use Rattle.sim_model.specs.Reading.{signal_value, resolved_value}
use Rattle.sim_model.specs.declared.plain.Phase.{Phase}
use Rattle.sim_model.specs.declared.plain.Phase.TheVariants as phase

-- the update phase: update is called exactly once for each channel that asked for it, and what it changes is notified for the
-- delta notification phase

abbrev pub notified_if : Bool → ℕ → Config → Config
notified_if true e c = notify c e when.Delta
notified_if false e c = c

-- the three events of a signal
abbrev pub announced : Changed → ℕ → Config → Config
announced x events c = notified_if x.neg (events + 2) (notified_if x.pos (events + 1) (notified_if x.changed events c))

abbrev pub announce_signals : List SignalPart → List Signal → Config → Config
announce_signals [] ss c = c
announce_signals (p ∷ ps) [] c = c
announce_signals (p ∷ ps) (s ∷ ss) c = announce_signals ps ss (announced (change_of s) p.events c)

-- a resolved signal that nobody wrote is as it was
abbrev pub resettled_if : Bool → Driven → Driven
resettled_if true r = resettled r
resettled_if false r = r

abbrev pub resolved_change : Driven → Bool → Changed
resolved_change r asked = edges r.value (resettled_if asked r).value

abbrev pub announce_resolved : List ResolvedPart → List Driven → List Bool → Config → Config
announce_resolved [] rs bs c = c
announce_resolved (p ∷ ps) [] bs c = c
announce_resolved (p ∷ ps) (r ∷ rs) [] c = c
announce_resolved (p ∷ ps) (r ∷ rs) (b ∷ bs) c = announce_resolved ps rs bs (announced (resolved_change r b) p.events c)

-- a fifo: data written, and data read
abbrev pub was_some : ℕ → Bool
was_some n = nat_lt 0 n

abbrev pub announce_fifos : List FifoPart → List Queued → Config → Config
announce_fifos [] qs c = c
announce_fifos (p ∷ ps) [] c = c
announce_fifos (p ∷ ps) (q ∷ qs) c = announce_fifos ps qs (notified_if (was_some q.read) (p.events + 1) (notified_if (was_some q.written) p.events c))

abbrev pub resettled_all : List Driven → List Bool → List Driven
resettled_all [] bs = []
resettled_all (r ∷ rs) [] = r ∷ rs
resettled_all (r ∷ rs) (b ∷ bs) = resettled_if b r ∷ resettled_all rs bs

abbrev pub resolved_changes : List Driven → List Bool → List Bool
resolved_changes [] bs = []
resolved_changes (r ∷ rs) [] = false ∷ resolved_changes rs []
resolved_changes (r ∷ rs) (b ∷ bs) = (resolved_change r b).changed ∷ resolved_changes rs bs

-- the channels after the update phase, with the marks of what it changed
abbrev pub channels_updated : Channels → Channels
channels_updated x = record {
  signals = map settled x.signals;
  changed = map (λ (s : Signal). (change_of s).changed) x.signals;
  resolved = resettled_all x.resolved x.resolved_asked;
  resolved_asked = map (λ (b : Bool). false) x.resolved_asked;
  resolved_changed = resolved_changes x.resolved x.resolved_asked;
  fifos = map after_update x.fifos;
  mutexes = x.mutexes;
  semaphores = x.semaphores;
}

abbrev pub update_phase : Config → Config
update_phase c =
    let d = announce_fifos c.design.fifos c.channels.fifos (announce_resolved c.design.resolved c.channels.resolved c.channels.resolved_asked (announce_signals c.design.signals c.channels.signals c)) in
    record d { channels = channels_updated c.channels }

-- the delta notification phase: the pending delta notifications and the zero time-outs are taken away, and then these events
-- fire and these instances wake

abbrev pub due_events : (Pending → Bool) → ℕ → List Pending → List Ev
due_events test e [] = []
due_events test e (p ∷ ps) = if test p then ev.Fixed e ∷ due_events test (suc e) ps else due_events test (suc e) ps

abbrev pub due_instances : (Deadline → Bool) → ℕ → List Instance → List ℕ
due_instances test p [] = []
due_instances test p (i ∷ is) = if test i.deadline then p ∷ due_instances test (suc p) is else due_instances test (suc p) is

abbrev pub without_pending : (Pending → Bool) → Pending → Pending
without_pending test p = if test p then pending.Nothing else p

abbrev pub without_deadline : (Deadline → Bool) → Instance → Instance
without_deadline test i = if test i.deadline then record i { deadline = no_deadline } else i

-- what is due fires together
abbrev pub fire_due : (Pending → Bool) → (Deadline → Bool) → Config → Config
fire_due test time c =
    wake_all (due_instances time 0 c.processes.instances)
    (fire_all (due_events test 0 c.events)
    (record c { events = map (without_pending test) c.events; processes = record c.processes { instances = map (without_deadline time) c.processes.instances } }))

abbrev pub is_delta : Pending → Bool
is_delta pending.Nothing = false
is_delta pending.Delta = true
is_delta (pending.At t) = false

abbrev pub is_zero_timeout : Deadline → Bool
is_zero_timeout no_deadline = false
is_zero_timeout next_delta = true
is_zero_timeout (at_time t) = false

abbrev pub delta_phase : Config → Config
delta_phase c = fire_due is_delta is_zero_timeout c

-- initialization: the update phase; then every process that is not left out is made runnable; then the delta notification
-- phase; evaluation follows

abbrev pub initialize_each : ℕ → List ProcessPart → Config → Config
initialize_each p [] c = c
initialize_each p (x ∷ xs) c =
    if x.dont_initialize then initialize_each (suc p) xs c
    else initialize_each (suc p) xs (with_runnable (change_instance c p freed) (c.processes.runnable ++ p ∷ []))

abbrev pub initialization : Config → Config
initialization c = with_phase (delta_phase (initialize_each 0 c.design.processes (update_phase c))) phase.Evaluate

-- after the delta notification phase: evaluation where an instance is runnable, and else the timed phase
abbrev pub phase_after : List ℕ → Phase
phase_after [] = phase.Timed
phase_after (p ∷ ps) = phase.Evaluate

abbrev pub delta_step : Config → Config
delta_step c = with_phase (delta_phase c) (phase_after (delta_phase c).processes.runnable)

-- the values of all objects that have values to be seen
abbrev pub visible_value : Config → VisibleId → Value
visible_value c (visible_id.Signal n) = signal_value (slice_get c.channels.signals n)
visible_value c (visible_id.Resolved n) = resolved_value (slice_get c.channels.resolved n)

abbrev pub visible_values : Config → List Value
visible_values c = map (λ (v : Visible). visible_value c v.id) c.design.visible

abbrev pub with_snapshot : Config → Config
with_snapshot c = record c { trace = record c.trace { snapshots = c.trace.snapshots ++ (record { time = c.cycle.now; values = visible_values c }) ∷ [] } }

-- now moves: a snapshot is taken before, and nothing changed at this time
abbrev pub unchanged : Channels → Channels
unchanged x = record x { changed = map (λ (b : Bool). false) x.changed; resolved_changed = map (λ (b : Bool). false) x.resolved_changed }

abbrev pub now_becomes : Config → ℕ → Config
now_becomes c t =
    if t == c.cycle.now then c
    else let d = with_snapshot c in record d { cycle = record d.cycle { now = t }; channels = unchanged d.channels }

-- the earliest time of all timed notifications and time-outs, those of disabled instances too

abbrev pub earlier : Option ℕ → ℕ → Option ℕ
earlier None t = Some t
earlier (Some u) t = if nat_lt t u then Some t else Some u

abbrev pub earliest_event : List Pending → Option ℕ → Option ℕ
earliest_event [] t = t
earliest_event (pending.Nothing ∷ ps) t = earliest_event ps t
earliest_event (pending.Delta ∷ ps) t = earliest_event ps t
earliest_event (pending.At u ∷ ps) t = earliest_event ps (earlier t u.0)

abbrev pub earlier_deadline : Deadline → Option ℕ → Option ℕ
earlier_deadline no_deadline t = t
earlier_deadline next_delta t = t
earlier_deadline (at_time u) t = earlier t u

abbrev pub earliest_deadline : List Instance → Option ℕ → Option ℕ
earliest_deadline [] t = t
earliest_deadline (i ∷ is) t = earliest_deadline is (earlier_deadline i.deadline t)

abbrev pub earliest : Config → Option ℕ
earliest c = earliest_deadline c.processes.instances (earliest_event c.events None)

abbrev pub is_at : ℕ → Pending → Bool
is_at t pending.Nothing = false
is_at t pending.Delta = false
is_at t (pending.At u) = u.0 == t

abbrev pub is_due_at : ℕ → Deadline → Bool
is_due_at t no_deadline = false
is_due_at t next_delta = false
is_due_at t (at_time u) = u == t

-- a time is past the run's end
abbrev pub is_past : ℕ → Option ℕ → Bool
is_past t None = false
is_past t (Some end) = nat_lt end t

abbrev pub is_end : ℕ → Option ℕ → Bool
is_end t None = false
is_end t (Some end) = end == t

-- the run is over: now becomes its end, if it has one
abbrev pub run_over : Config → Config
run_over c = with_phase (now_becomes c (unwrap_or c.cycle.end c.cycle.now)) phase.Idle

-- after the firing: idle at the run's end, and what was made runnable stays for the next run; else evaluation where an
-- instance is runnable
abbrev pub phase_at : ℕ → Option ℕ → List ℕ → Phase
phase_at t end runnable = if is_end t end then phase.Idle else phase_after runnable

abbrev pub fired_at : Config → ℕ → Config
fired_at c t = fire_due (is_at t) (is_due_at t) (now_becomes c t)

abbrev pub timed_at : Config → Option ℕ → Config
timed_at c None = run_over c
timed_at c (Some t) = if is_past t c.cycle.end then run_over c else with_phase (fired_at c t) (phase_at t c.cycle.end (fired_at c t).processes.runnable)

abbrev pub timed_step : Config → Config
timed_step c = timed_at c (earliest c)

-- the session ends
abbrev pub session_stopped : Config → Config
session_stopped c = record c { cycle = record c.cycle { stopped = true } }

-- an evaluation phase ends with the update phase; the delta notification phase comes next, or, where the model asked to stop since
-- the run began, the session ends there, and what the updates notified wakes nobody
abbrev pub update_step : Config → Config
update_step c = if c.cycle.stop_asked then session_stopped (update_phase c) else with_phase (update_phase c) phase.Notify
