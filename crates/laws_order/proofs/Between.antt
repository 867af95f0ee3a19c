-- What lies between evaluation phases leaves each process to itself: wakes and events, the phases of the scheduler, and the commands of the
-- script.
use Rattle.std.proofs.Common.{◌≡◌, ℕ, suc, ◌+◌, ◌==◌, Bool, true, false, cond, not, ◌||◌, List, [], ◌∷◌, ◌++◌, map, slice_get, unwrap_or, Option, Some, None, refl, sym, ◌∙◌, subst}
use Rattle.std.specs.Prelude.{Ok}
use Rattle.std.specs.Result.{IfOk}
use Rattle.std.proofs.lemmas.List.{length-map}
use Rattle.sim_model.specs.LogicValues.declared.kinds.Value.{Value}
use Rattle.sim_model.specs.SignalChannel.declared.signal.Signal.{Signal}
use Rattle.sim_model.specs.SignalChannel.declared.signal.Changed.{Changed}
use Rattle.sim_model.specs.SignalChannel.Signals.{change_of}
use Rattle.sim_model.specs.SignalChannel.Drivers.{Driven}
use Rattle.sim_model.specs.FifoSync.Fifos.{Queued}
use Rattle.sim_model.specs.SimTime.declared.moments.Time.{Time}
use Rattle.sim_model.specs.EventCore.Ev.{same_event}
use Rattle.sim_model.specs.EventCore.declared.event.Ev.{Ev}
use Rattle.sim_model.specs.EventCore.declared.notifications.Pending.{Pending}
use Rattle.sim_model.specs.FlatDesign.Typed.{EachOf}
use Rattle.sim_model.specs.FlatDesign.declared.design.SignalPart.{SignalPart}
use Rattle.sim_model.specs.FlatDesign.declared.design.ResolvedPart.{ResolvedPart}
use Rattle.sim_model.specs.FlatDesign.declared.design.FifoPart.{FifoPart}
use Rattle.sim_model.specs.FlatDesign.declared.design.ProcessPart.{ProcessPart}
use Rattle.sim_model.specs.FlatDesign.declared.design.Visible.{Visible}
use Rattle.sim_model.specs.FlatDesign.declared.design.VisibleId.{VisibleId}
use Rattle.sim_model.specs.FlatDesign.declared.design.VisibleId.TheVariants as visible_id
use Rattle.sim_model.specs.FlatDesign.declared.design.Design.{Design}
use Rattle.sim_model.specs.Values.{time_within}
use Rattle.sim_model.specs.Configuration.{Config, Instance, Wait, Deadline, waits_for_nothing, waits_statically, waits_for_any, waits_for_all, no_deadline, change_instance, instance_at, with_runnable, with_phase}
use Rattle.sim_model.specs.Waits.{is_among, struck, freed, joined, is_active, woken, wake_instance, wake, left_of_all, reaches, reach_instance, fire_each, fire, fire_all, wake_all}
use Rattle.sim_model.specs.Phases.{notified_if, announced, announce_signals, resolved_change, announce_resolved, was_some, announce_fifos, update_phase, due_events, due_instances, without_pending, without_deadline, fire_due, is_delta, is_zero_timeout, initialize_each, initialization, delta_step, with_snapshot, unchanged, now_becomes, earliest, is_past, is_at, is_due_at, run_over, fired_at, phase_at, timed_at, timed_step, session_stopped, update_step}
use Rattle.sim_model.specs.Steps.{shows, sets, sets_visible, run_begun, begin_run, carry_out}
use Rattle.sim_model.specs.declared.plain.Phase.TheVariants as phase
use Rattle.sim_model.specs.declared.plain.Command.{Command}
use Rattle.sim_model.specs.declared.plain.Command.TheVariants as command
use Rattle.laws_order.specs.Fits.{IsFixed, HearsFixed, KeepsToItself, AreOnTheirOwn}
use Rattle.laws_order.proofs.OwnPlaces.{filter-each, map-each}
use Rattle.laws_order.proofs.Hearing.{if-then}
use Rattle.laws_order.proofs.Within.{process-as, waits-to, own-changed}

pub record Between (d design : Design) (is : List Instance) (stack : List ℕ) (stopped asked : Bool) : Type 0 where
  pub design_is : design ≡ d
  pub own : AreOnTheirOwn d is
  pub empty : stack ≡ []
  pub goes_on : stopped ≡ false
  pub not_asked : asked ≡ false

module _ (d : Design) where
  -- with nobody on the stack, and with no stop
  abbrev pub IsBetween : Config → Type 0
  IsBetween c = Between d c.design c.processes.instances c.processes.stack c.cycle.stopped c.cycle.stop_asked

  either : (b : Bool) (c e : Config) → IsBetween c → IsBetween e → IsBetween (cond b c e)
  either true c e one_ two = one_
  either false c e one_ two = two

  changed : (c : Config) (p : ℕ) (f : Instance → Instance) → ((i : Instance) → KeepsToItself d p i → KeepsToItself d p (f i)) → IsBetween c → IsBetween (change_instance c p f)
  changed c p f keeps h = record { design_is = h.design_is; own = own-changed d c.processes.instances p f keeps h.own; empty = h.empty; goes_on = h.goes_on; not_asked = h.not_asked }

  -- ---- wakes and events

  kept_to : (p : ℕ) (i : Instance) → KeepsToItself d p i → KeepsToItself d p (record (freed i) { kept = true })
  kept_to p i h = record { process = process-as d p i (record (freed i) { kept = true }) refl h.process; left = h.left; wait = tt; trigger = h.trigger; suspended = h.suspended; disabled = h.disabled }

  freed_to : (p : ℕ) (i : Instance) → KeepsToItself d p i → KeepsToItself d p (freed i)
  freed_to p i h = waits-to d p waits_for_nothing no_deadline tt i h

  woken_between : (c : Config) (p : ℕ) (i : Instance) → IsBetween c → IsBetween (woken c p i)
  woken_between c p i h =
      either i.suspended (change_instance c p (λ j. record (freed j) { kept = true })) (with_runnable (change_instance c p freed) (joined c.processes.runnable p)) (changed c p _ (kept_to p) h) (changed c p freed (freed_to p) h)

  wake_between : (c : Config) (p : ℕ) (o : Option Instance) → IsBetween c → IsBetween (wake_instance c p o)
  wake_between c p None h = h
  wake_between c p (Some i) h = either ((i.ended || is_active c p) || i.disabled) c (woken c p i) h (woken_between c p i h)

  all_to : (p : ℕ) (es : List Ev) → EachOf IsFixed es → (i : Instance) → KeepsToItself d p i → KeepsToItself d p (record i { wait = waits_for_all es })
  all_to p es fixed i h = waits-to d p (waits_for_all es) i.deadline fixed i h

  left_between : (c : Config) (p : ℕ) (es : List Ev) → EachOf IsFixed es → IsBetween c → IsBetween (left_of_all c p es)
  left_between c p [] fixed h = wake_between c p (instance_at c p) h
  left_between c p (e ∷ es) fixed h = changed c p _ (all_to p (e ∷ es) fixed) h

  reaches_between : (c : Config) (e : Ev) (p : ℕ) (i : Instance) (w : Wait) → HearsFixed w → IsBetween c → IsBetween (reaches c e p i w)
  reaches_between c e p i waits_for_nothing fixed h = h
  reaches_between c e p i waits_statically fixed h = either (is_among e i.static) (wake c p) c (wake_between c p (instance_at c p) h) h
  reaches_between c e p i (waits_for_any es) fixed h = either (is_among e es) (wake c p) c (wake_between c p (instance_at c p) h) h
  reaches_between c e p i (waits_for_all es) fixed h =
      either (is_among e es) (left_of_all c p (struck e es)) c (left_between c p (struck e es) (filter-each IsFixed (λ (x : Ev). not (same_event e x)) es fixed) h) h

  reach_between : (c : Config) (e : Ev) (p : ℕ) (o : Option Instance) → instance_at c p ≡ o → IsBetween c → IsBetween (reach_instance c e p o)
  reach_between c e p None at h = h
  reach_between c e p (Some i) at h = either i.disabled c (reaches c e p i i.wait) h (reaches_between c e p i i.wait (h.own.each p i at).wait h)

  fire_each_between : (e : Ev) (p : ℕ) (is : List Instance) (c : Config) → IsBetween c → IsBetween (fire_each e p is c)
  fire_each_between e p [] c h = h
  fire_each_between e p (i ∷ is) c h = fire_each_between e (suc p) is (reach_instance c e p (instance_at c p)) (reach_between c e p (instance_at c p) refl h)

  fire_all_between : (es : List Ev) (c : Config) → IsBetween c → IsBetween (fire_all es c)
  fire_all_between [] c h = h
  fire_all_between (e ∷ es) c h = fire_all_between es (fire c e) (fire_each_between e 0 c.processes.instances c h)

  wake_all_between : (ps : List ℕ) (c : Config) → IsBetween c → IsBetween (wake_all ps c)
  wake_all_between [] c h = h
  wake_all_between (p ∷ ps) c h = wake_all_between ps (wake c p) (wake_between c p (instance_at c p) h)

  -- ---- the update phase changes no process

  if_between : (b : Bool) (e : ℕ) (c : Config) → IsBetween c → IsBetween (notified_if b e c)
  if_between true e c h = h
  if_between false e c h = h

  announced_between : (x : Changed) (events : ℕ) (c : Config) → IsBetween c → IsBetween (announced x events c)
  announced_between x events c h =
      let once_ = notified_if x.changed events c in
      if_between x.neg (events + 2) (notified_if x.pos (events + 1) once_) (if_between x.pos (events + 1) once_ (if_between x.changed events c h))

  signals_between : (ps : List SignalPart) (ss : List Signal) (c : Config) → IsBetween c → IsBetween (announce_signals ps ss c)
  signals_between [] ss c h = h
  signals_between (p ∷ ps) [] c h = h
  signals_between (p ∷ ps) (s ∷ ss) c h = signals_between ps ss (announced (change_of s) p.events c) (announced_between (change_of s) p.events c h)

  resolved_between : (ps : List ResolvedPart) (rs : List Driven) (bs : List Bool) (c : Config) → IsBetween c → IsBetween (announce_resolved ps rs bs c)
  resolved_between [] rs bs c h = h
  resolved_between (p ∷ ps) [] bs c h = h
  resolved_between (p ∷ ps) (r ∷ rs) [] c h = h
  resolved_between (p ∷ ps) (r ∷ rs) (b ∷ bs) c h = resolved_between ps rs bs (announced (resolved_change r b) p.events c) (announced_between (resolved_change r b) p.events c h)

  fifos_between : (ps : List FifoPart) (qs : List Queued) (c : Config) → IsBetween c → IsBetween (announce_fifos ps qs c)
  fifos_between [] qs c h = h
  fifos_between (p ∷ ps) [] c h = h
  fifos_between (p ∷ ps) (q ∷ qs) c h =
      let once_ = notified_if (was_some q.written) p.events c in
      fifos_between ps qs (notified_if (was_some q.read) (p.events + 1) once_) (if_between (was_some q.read) (p.events + 1) once_ (if_between (was_some q.written) p.events c h))

  update_between : (c : Config) → IsBetween c → IsBetween (update_phase c)
  update_between c h =
      let first = announce_signals c.design.signals c.channels.signals c in
      let second = announce_resolved c.design.resolved c.channels.resolved c.channels.resolved_asked first in
      fifos_between c.design.fifos c.channels.fifos second (resolved_between c.design.resolved c.channels.resolved c.channels.resolved_asked first (signals_between c.design.signals c.channels.signals c h))

  update_if : (b : Bool) (c : Config) → b ≡ false → IsBetween c → IsBetween (cond b (session_stopped (update_phase c)) (with_phase (update_phase c) phase.Notify))
  update_if b c off h = subst (λ (x : Bool). IsBetween (cond x (session_stopped (update_phase c)) (with_phase (update_phase c) phase.Notify))) (sym off) (update_between c h)

  pub update-between : (c : Config) → IsBetween c → IsBetween (update_step c)
  update-between c h = update_if c.cycle.stop_asked c h.not_asked h

  -- ---- what is due fires together

  deadline_to : (time : Deadline → Bool) (p : ℕ) (i : Instance) → KeepsToItself d p i → KeepsToItself d p (without_deadline time i)
  deadline_to time p i h = by (time i.deadline)
    where
      by : (b : Bool) → KeepsToItself d p (cond b (record i { deadline = no_deadline }) i)
      by true = waits-to d p i.wait no_deadline h.wait i h
      by false = h

  abbrev taken_away : (Pending → Bool) → (Deadline → Bool) → Config → Config
  taken_away test time c = record c { events = map (without_pending test) c.events; processes = record c.processes { instances = map (without_deadline time) c.processes.instances } }

  without_due : (test : Pending → Bool) (time : Deadline → Bool) (c : Config) → IsBetween c → IsBetween (taken_away test time c)
  without_due test time c h = record {
    design_is = h.design_is;
    own = record {
      counted = length-map c.processes.instances (without_deadline time) ∙ h.own.counted;
      each = map-each (KeepsToItself d) (without_deadline time) c.processes.instances (deadline_to time) h.own.each;
    };
    empty = h.empty;
    goes_on = h.goes_on;
    not_asked = h.not_asked;
  }

  due_between : (test : Pending → Bool) (time : Deadline → Bool) (c : Config) → IsBetween c → IsBetween (fire_due test time c)
  due_between test time c h =
      wake_all_between (due_instances time 0 c.processes.instances) (fire_all (due_events test 0 c.events) (taken_away test time c))
      (fire_all_between (due_events test 0 c.events) (taken_away test time c) (without_due test time c h))

  -- ---- initialization, and the delta and the timed notification phase

  initialize_between : (p : ℕ) (xs : List ProcessPart) (c : Config) → IsBetween c → IsBetween (initialize_each p xs c)
  initialize_between p [] c h = h
  initialize_between p (x ∷ xs) c h =
      either x.dont_initialize (initialize_each (suc p) xs c) (initialize_each (suc p) xs (with_runnable (change_instance c p freed) (c.processes.runnable ++ p ∷ []))) (initialize_between (suc p) xs c h)
      (initialize_between (suc p) xs (with_runnable (change_instance c p freed) (c.processes.runnable ++ p ∷ [])) (changed c p freed (freed_to p) h))

  pub initialization-between : (c : Config) → IsBetween c → IsBetween (initialization c)
  initialization-between c h = due_between is_delta is_zero_timeout (initialize_each 0 c.design.processes (update_phase c)) (initialize_between 0 c.design.processes (update_phase c) (update_between c h))

  pub delta-between : (c : Config) → IsBetween c → IsBetween (delta_step c)
  delta-between c h = due_between is_delta is_zero_timeout c h

  now_between : (c : Config) (t : ℕ) → IsBetween c → IsBetween (now_becomes c t)
  now_between c t h = by (t == c.cycle.now)
    where
      by : (b : Bool) → IsBetween (cond b c (let e = with_snapshot c in record e { cycle = record e.cycle { now = t }; channels = unchanged e.channels }))
      by true = h
      by false = h

  over_between : (c : Config) → IsBetween c → IsBetween (run_over c)
  over_between c h = now_between c (unwrap_or c.cycle.end c.cycle.now) h

  fired_between : (c : Config) (t : ℕ) → IsBetween c → IsBetween (fired_at c t)
  fired_between c t h = due_between (is_at t) (is_due_at t) (now_becomes c t) (now_between c t h)

  timed_between : (c : Config) (o : Option ℕ) → IsBetween c → IsBetween (timed_at c o)
  timed_between c None h = over_between c h
  timed_between c (Some t) h = either (is_past t c.cycle.end) (run_over c) (with_phase (fired_at c t) (phase_at t c.cycle.end (fired_at c t).processes.runnable)) (over_between c h) (fired_between c t h)

  pub timed-between : (c : Config) → IsBetween c → IsBetween (timed_step c)
  timed-between c h = timed_between c (earliest c) h

  -- ---- commands

  begun_between : (c : Config) (end : Option ℕ) → IsBetween c → IsBetween (run_begun c end)
  begun_between c end h = record { design_is = h.design_is; own = h.own; empty = h.empty; goes_on = h.goes_on; not_asked = refl }

  run_between : (c : Config) (t : Option Time) → IsBetween c → IfOk (begin_run c t) IsBetween
  run_between c None h = begun_between c None h
  run_between c (Some t) h = if-then IsBetween (time_within (c.cycle.now + t.0)) (λ end. Ok (run_begun c (Some end))) (λ end. begun_between c (Some end) h)

  sets_between : (c : Config) (v : Value) (x : VisibleId) → IsBetween c → IsBetween (sets c v x)
  sets_between c v (visible_id.Signal n) h = h
  sets_between c v (visible_id.Resolved n) h = h

  visible_between : (c : Config) (v : Value) (o : Option Visible) → IsBetween c → IsBetween (sets_visible c v o)
  visible_between c v None h = h
  visible_between c v (Some x) h = sets_between c v x.id h

  shows_between : (c : Config) (o : Option Visible) → IsBetween c → IsBetween (shows c o)
  shows_between c None h = h
  shows_between c (Some v) h = h

  pub command-between : (c : Config) (k : Command) → IsBetween c → IfOk (carry_out c k) IsBetween
  command-between c (command.Run t) h = run_between c t h
  command-between c (command.Set i v) h = visible_between c v (slice_get c.design.visible i) h
  command-between c (command.Show i) h = shows_between c (slice_get c.design.visible i) h
