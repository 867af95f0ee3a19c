-- The events that a step fires (IEEE 1666-2011, 4.2.1 and 5.10): those of a notification that acts at once, of an unlock by the owner
-- and of a post; that of an instance that ends, and that of one that a reset begins anew; and those that fall due.
use Rattle.std.specs.Prelude.{ℕ, Bool, List, [], ◌∷◌, slice_get, Option, Some, None, Result, Ok, Err, if◌then◌else◌}
use Rattle.std.specs.List.{list_any}
use Rattle.laws_runs.specs.ModelTree.declared.items.ProcessKind.{ProcessKind}
use Rattle.laws_runs.specs.ModelTree.declared.items.ProcessKind.TheVariants as process
use Rattle.laws_runs.specs.EventCore.declared.event.Ev.{Ev}
use Rattle.laws_runs.specs.EventCore.declared.event.Ev.TheVariants as ev
use Rattle.laws_runs.specs.FifoSync.Locks.{is_owner}
use Rattle.laws_runs.specs.FlatDesign.Code.{ChannelTerm, Statement, statement_at}
use Rattle.laws_runs.specs.FlatDesign.Facts.{Fired, no_event, named, unlocked, posted, facts}
use Rattle.laws_runs.specs.FlatDesign.declared.names.EventMember.TheVariants as event
use Rattle.laws_runs.specs.FlatDesign.declared.design.ChannelId.{ChannelId}
use Rattle.laws_runs.specs.FlatDesign.declared.faults.RunFault.{RunFault}
use Rattle.laws_runs.specs.SimModel.Values.{on_ok}
use Rattle.laws_runs.specs.SimModel.Residual as residual
use Rattle.laws_runs.specs.SimModel.Residual.{Next, settle, next_of}
use Rattle.laws_runs.specs.SimModel.Configuration.{Config, Instance, arena, instance_at}
use Rattle.laws_runs.specs.SimModel.Reading.{Here, here, denotes, place_in}
use Rattle.laws_runs.specs.SimModel.Waits.{is_among}
use Rattle.laws_runs.specs.SimModel.Waiting.{channel_event, event_number}
use Rattle.laws_runs.specs.SimModel.Channels.{channel_in, mutex_of, semaphore_of}
use Rattle.laws_runs.specs.SimModel.Statements.{settled_in}
use Rattle.laws_runs.specs.SimModel.Phases.{due_events, is_delta, is_at, is_past, earliest, update_phase, initialize_each}
use Rattle.laws_runs.specs.SimModel.declared.plain.Goal.{Goal}
use Rattle.laws_runs.specs.SimModel.declared.plain.Goal.TheVariants as goal_of
use Rattle.laws_runs.specs.SimModel.declared.plain.Phase.{Phase}
use Rattle.laws_runs.specs.SimModel.declared.plain.Phase.TheVariants as phase

-- ---- by a statement

abbrev pub fixed : Option ℕ → List Ev
fixed None = []
fixed (Some e) = ev.Fixed e ∷ []

abbrev pub of_channel : Result ChannelId RunFault → (ChannelId → List Ev) → List Ev
of_channel (Ok ch) f = f ch
of_channel (Err e) f = []

abbrev pub by_owner : ℕ → ChannelId → Option (Option ℕ) → List Ev
by_owner p ch None = []
by_owner p ch (Some m) = if is_owner p m then channel_event event.Own ch ∷ [] else []

abbrev pub by_unlock : Config → ℕ → ChannelId → Option ℕ → List Ev
by_unlock c p ch None = []
by_unlock c p ch (Some n) = by_owner p ch (slice_get c.channels.mutexes n)

abbrev pub by_value : ChannelId → Option ℕ → List Ev
by_value ch None = []
by_value ch (Some v) = channel_event event.Own ch ∷ []

abbrev pub by_post : Config → ChannelId → Option ℕ → List Ev
by_post c ch None = []
by_post c ch (Some n) = by_value ch (slice_get c.channels.semaphores n)

abbrev pub channel_named : Here → ChannelTerm → Result ChannelId RunFault
channel_named h t = on_ok (place_in h t.place) (channel_in h t)

abbrev pub by_fired : Config → ℕ → Here → Fired → List Ev
by_fired c p h no_event = []
by_fired c p h (named n) = fixed (event_number (denotes h n))
by_fired c p h (unlocked t) = of_channel (channel_named h t) (λ ch. by_unlock c p ch (mutex_of ch))
by_fired c p h (posted t) = of_channel (channel_named h t) (λ ch. by_post c ch (semaphore_of ch))

abbrev pub by_statement : Config → ℕ → Here → Statement → List Ev
by_statement c p h s = by_fired c p h (facts s).fired

abbrev pub by_statement_if : Config → ℕ → Here → Option Statement → List Ev
by_statement_if c p h None = []
by_statement_if c p h (Some s) = by_statement c p h s

-- ---- in a turn of p, which is i

abbrev pub by_end : ℕ → ProcessKind → List Ev
by_end p process.Thread = ev.Terminated p ∷ []
by_end p process.Method = []

abbrev pub by_goal : ℕ → Goal → List Ev
by_goal p goal_of.End = ev.Terminated p ∷ []
by_goal p goal_of.Restart = ev.Restarted p ∷ []
by_goal p goal_of.Thrown = []
by_goal p goal_of.Injected = []

abbrev pub by_next : Config → ℕ → Instance → Here → Next → List Ev
by_next c p i h (residual.statement s) = by_statement_if c p h (statement_at (arena c) s)
by_next c p i h (residual.owes s q) = []
by_next c p i h (residual.leaves x) = []
by_next c p i h residual.done = by_end p i.kind
by_next c p i h (residual.reaches k) = by_goal p k
by_next c p i h residual.nothing = by_end p i.kind

abbrev pub in_turn_of : Config → ℕ → Option Instance → List Ev
in_turn_of c p None = []
in_turn_of c p (Some i) =
    let r = settle (arena c) i.residual in
    by_next c p i (here (settled_in c p i.residual) p (record i { residual = r }) r) (next_of r)

abbrev pub in_evaluation : Config → List ℕ → List Ev
in_evaluation c [] = []
in_evaluation c (p ∷ rest) = in_turn_of c p (instance_at c p)

-- ---- what falls due

abbrev pub at_time : Config → Option ℕ → List Ev
at_time c None = []
at_time c (Some t) = if is_past t c.cycle.end then [] else due_events (is_at t) 0 c.events

abbrev pub in_phase : Config → Phase → List Ev
in_phase c phase.Idle = []
in_phase c phase.Start = due_events is_delta 0 (initialize_each 0 c.design.processes (update_phase c)).events
in_phase c phase.Evaluate = in_evaluation c c.processes.stack
in_phase c phase.Notify = due_events is_delta 0 c.events
in_phase c phase.Timed = at_time c (earliest c)

-- the events that the next step fires, in their order
abbrev pub fired_by : Config → List Ev
fired_by c = if c.cycle.stopped then [] else in_phase c c.cycle.phase

-- it fires an event of this list
abbrev pub fires_of : Config → List Ev → Bool
fires_of c l = list_any (λ e. is_among e l) (fired_by c)
