-- The notification phases and initialization, in two configurations that are the same.
use Rattle.std.proofs.Common.{◌≡◌, ◌==◌, ℕ, suc, Bool, true, false, cond, List, [], ◌∷◌, ◌++◌, map, unwrap_or, Option, Some, None, refl, sym, ap, ◌∙◌, subst}
use Rattle.sim_model.specs.EventCore.declared.notifications.Pending.{Pending}
use Rattle.sim_model.specs.FlatDesign.declared.design.ProcessPart.{ProcessPart}
use Rattle.sim_model.specs.Configuration.{Config, Instance, Channels, Cycle, Deadline, no_deadline, change_instance, with_phase, with_runnable}
use Rattle.sim_model.specs.Waits.{freed, fire_all, wake_all}
use Rattle.sim_model.specs.Phases.{update_phase, update_step, session_stopped, due_events, due_instances, without_pending, without_deadline, fire_due, is_delta, is_zero_timeout, delta_phase, delta_step, initialize_each, initialization, phase_after, with_snapshot, unchanged, now_becomes, earlier_deadline, earliest_event, earliest_deadline, earliest, is_at, is_due_at, is_past, run_over, phase_at, is_end, fired_at, timed_at, timed_step}
use Rattle.sim_model.specs.declared.plain.Phase.{Phase}
use Rattle.sim_model.specs.declared.plain.Phase.TheVariants as phase
use Rattle.laws_order.specs.Sees.{unnumbered}
use Rattle.laws_order.specs.Same.{Same}
use Rattle.laws_order.proofs.SameLists.{mapped, map-alike, append-holds, phase-held}
use Rattle.laws_order.proofs.Moves.{by-test, by-tests, plain, runnable-same, with-instances, with-events, with-cycle, with-channels, channels-same}
use Rattle.laws_order.proofs.Waking.{wakes-same, fires-same}
use Rattle.laws_order.proofs.Updating.{ResolveAlike, updates-same}
use Rattle.laws_order.proofs.Shown.{snapshots-same}

phase_same : (c x : Config) (p q : Phase) → q ≡ p → Same c x → Same (with_phase c p) (with_phase x q)
phase_same c x p q same h = subst (λ k. Same (with_phase c p) (with_phase x k)) (sym same) (with-cycle c x (λ (y : Cycle). record y { phase = p }) h)

pub with-phase : (c x : Config) (p : Phase) → Same c x → Same (with_phase c p) (with_phase x p)
with-phase c x p h = with-cycle c x (λ (y : Cycle). record y { phase = p }) h

-- ---- the end of an evaluation phase

pub update-step : ResolveAlike → (c x : Config) → Same c x → Same (update_step c) (update_step x)
update-step resolves c x h =
    by-tests c.cycle.stop_asked x.cycle.stop_asked (session_stopped (update_phase c)) (with_phase (update_phase c) phase.Notify) (session_stopped (update_phase x)) (with_phase (update_phase x) phase.Notify)
    (ap (λ (k : Config). k.cycle.stop_asked) h.alike.shared) (with-cycle (update_phase c) (update_phase x) (λ (y : Cycle). record y { stopped = true }) (updates-same resolves c x h))
    (with-phase (update_phase c) (update_phase x) phase.Notify (updates-same resolves c x h))

-- ---- what is due

timeless : (test : Deadline → Bool) (i : Instance) → unnumbered (without_deadline test i) ≡ without_deadline test (unnumbered i)
timeless test i = by (test i.deadline)
  where
    by : (b : Bool) → unnumbered (cond b (record i { deadline = no_deadline }) i) ≡ cond b (record (unnumbered i) { deadline = no_deadline }) (unnumbered i)
    by true = refl
    by false = refl

due_by : (b : Bool) (p : ℕ) (ps qs : List ℕ) → ps ≡ qs → cond b (p ∷ ps) ps ≡ cond b (p ∷ qs) qs
due_by true p ps qs same = ap (λ ns. p ∷ ns) same
due_by false p ps qs same = same

due_mapped : (test : Deadline → Bool) (p : ℕ) (is : List Instance) → due_instances test p (map unnumbered is) ≡ due_instances test p is
due_mapped test p [] = refl
due_mapped test p (i ∷ is) = due_by (test i.deadline) p (due_instances test (suc p) (map unnumbered is)) (due_instances test (suc p) is) (due_mapped test (suc p) is)

-- instances are read as those of the other one are
as_mapped : {A : Type 0} (f : List Instance → A) → ((is : List Instance) → f (map unnumbered is) ≡ f is) → (c x : Config) → Same c x → f x.processes.instances ≡ f c.processes.instances
as_mapped f plainly c x h = sym (plainly x.processes.instances) ∙ ap f (mapped unnumbered c.processes.instances x.processes.instances h.alike.instances) ∙ plainly c.processes.instances

abbrev taken_away : (Pending → Bool) → (Deadline → Bool) → Config → Config
taken_away test time c = record c { events = map (without_pending test) c.events; processes = record c.processes { instances = map (without_deadline time) c.processes.instances } }

away_same : (test : Pending → Bool) (time : Deadline → Bool) (c x : Config) → Same c x → Same (taken_away test time c) (taken_away test time x)
away_same test time c x h =
    with-events (record c { processes = record c.processes { instances = map (without_deadline time) c.processes.instances } }) (record x { processes = record x.processes { instances = map (without_deadline time) x.processes.instances } })
    (map (without_pending test))
    (with-instances c x (map (without_deadline time) c.processes.instances) (map (without_deadline time) x.processes.instances)
    (λ p. map-alike unnumbered (without_deadline time) (plain (without_deadline time) (timeless time)) c.processes.instances x.processes.instances p (h.alike.instances p)) h)

fired_same : (test : Pending → Bool) (time : Deadline → Bool) (c x : Config) → Same c x
    → Same (fire_all (due_events test 0 c.events) (taken_away test time c)) (fire_all (due_events test 0 x.events) (taken_away test time x))
fired_same test time c x h =
    subst (λ es. Same (fire_all (due_events test 0 c.events) (taken_away test time c)) (fire_all es (taken_away test time x))) (sym (ap (λ (k : Config). due_events test 0 k.events) h.alike.shared))
    (fires-same (due_events test 0 c.events) (taken_away test time c) (taken_away test time x) (away_same test time c x h))

pub due-same : (test : Pending → Bool) (time : Deadline → Bool) (c x : Config) → Same c x → Same (fire_due test time c) (fire_due test time x)
due-same test time c x h =
    subst (λ ps. Same (fire_due test time c) (wake_all ps (fire_all (due_events test 0 x.events) (taken_away test time x)))) (sym (as_mapped (due_instances time 0) (due_mapped time 0) c x h))
    (wakes-same (due_instances time 0 c.processes.instances) (fire_all (due_events test 0 c.events) (taken_away test time c)) (fire_all (due_events test 0 x.events) (taken_away test time x)) (fired_same test time c x h))

-- ---- the delta notification phase, and initialization

delta_same : (c x : Config) → Same c x → Same (delta_phase c) (delta_phase x)
delta_same c x h = due-same is_delta is_zero_timeout c x h

pub delta-step : (c x : Config) → Same c x → Same (delta_step c) (delta_step x)
delta-step c x h =
    let d = delta_same c x h in
    phase_same (delta_phase c) (delta_phase x) (phase_after (delta_phase c).processes.runnable) (phase_after (delta_phase x).processes.runnable)
    (phase-held (delta_phase c).processes.runnable (delta_phase x).processes.runnable d.alike.runnable) d

initialized_same : (p : ℕ) (xs : List ProcessPart) (c x : Config) → Same c x → Same (initialize_each p xs c) (initialize_each p xs x)
initialized_same p [] c x h = h
initialized_same p (k ∷ ks) c x h =
    by-test k.dont_initialize (initialize_each (suc p) ks c) (initialize_each (suc p) ks (with_runnable (change_instance c p freed) (c.processes.runnable ++ p ∷ [])))
    (initialize_each (suc p) ks x) (initialize_each (suc p) ks (with_runnable (change_instance x p freed) (x.processes.runnable ++ p ∷ [])))
    (initialized_same (suc p) ks c x h)
    (initialized_same (suc p) ks (with_runnable (change_instance c p freed) (c.processes.runnable ++ p ∷ [])) (with_runnable (change_instance x p freed) (x.processes.runnable ++ p ∷ []))
    (runnable-same c x p freed (c.processes.runnable ++ p ∷ []) (x.processes.runnable ++ p ∷ []) (plain freed (λ i. refl)) (append-holds c.processes.runnable x.processes.runnable (p ∷ []) h.alike.runnable) h))

pub initialization-same : ResolveAlike → (c x : Config) → Same c x → Same (initialization c) (initialization x)
initialization-same resolves c x h =
    let begun = initialized_same 0 c.design.processes (update_phase c) (update_phase x) (updates-same resolves c x h) in
    let each = subst (λ ps. Same (initialize_each 0 c.design.processes (update_phase c)) (initialize_each 0 ps (update_phase x))) (sym (ap (λ (k : Config). k.design.processes) h.alike.shared)) begun in
    with-phase _ _ phase.Evaluate (delta_same (initialize_each 0 c.design.processes (update_phase c)) (initialize_each 0 x.design.processes (update_phase x)) each)

-- ---- now moves

pub now-same : (c x : Config) → Same c x → x.cycle ≡ c.cycle
now-same c x h = ap (λ (k : Config). k.cycle) h.alike.shared

seen_same : (c x : Config) → Same c x → Same (with_snapshot c) (with_snapshot x)
seen_same c x h = record {
  alike = record {
    instances = h.alike.instances;
    runnable = h.alike.runnable;
    stack = h.alike.stack;
    values = h.alike.values;
    shared =
        ap (λ (k : Config). record k { trace = record k.trace { snapshots = (with_snapshot x).trace.snapshots } }) h.alike.shared
        ∙ ap (λ ss. record c { processes = record c.processes { runnable = []; stack = []; instances = [] }; channels = record c.channels { resolved = [] }; trace = record { told = []; snapshots = ss; marks = []; next_guard = 0 } }) (snapshots-same c x h);
  };
  drivers = h.drivers;
}

unchanged_same : (c x : Config) → Same c x → Same (record c { channels = unchanged c.channels }) (record x { channels = unchanged x.channels })
unchanged_same c x h = with-channels c x (unchanged c.channels) (unchanged x.channels) (ap (λ (k : Channels). unchanged k) (channels-same c x h)) h.drivers h

becomes_same : (c x : Config) (t : ℕ) → Same c x → Same (now_becomes c t) (now_becomes x t)
becomes_same c x t h =
    by-tests (t == c.cycle.now) (t == x.cycle.now) c _ x _ (ap (λ (k : Cycle). t == k.now) (now-same c x h)) h
    (with-cycle (record (with_snapshot c) { channels = unchanged c.channels }) (record (with_snapshot x) { channels = unchanged x.channels }) (λ (y : Cycle). record y { now = t }) (unchanged_same (with_snapshot c) (with_snapshot x) (seen_same c x h)))

-- ---- the timed notification phase

earliest_mapped : (is : List Instance) (t : Option ℕ) → earliest_deadline (map unnumbered is) t ≡ earliest_deadline is t
earliest_mapped [] t = refl
earliest_mapped (i ∷ is) t = earliest_mapped is (earlier_deadline i.deadline t)

earliest_same : (c x : Config) → Same c x → earliest x ≡ earliest c
earliest_same c x h =
    ap (λ (k : Config). earliest_deadline x.processes.instances (earliest_event k.events None)) h.alike.shared
    ∙ as_mapped (λ is. earliest_deadline is (earliest_event c.events None)) (λ is. earliest_mapped is (earliest_event c.events None)) c x h

over_same : (c x : Config) → Same c x → Same (run_over c) (run_over x)
over_same c x h =
    with-phase (now_becomes c (unwrap_or c.cycle.end c.cycle.now)) (now_becomes x (unwrap_or x.cycle.end x.cycle.now)) phase.Idle
    (subst (λ t. Same (now_becomes c (unwrap_or c.cycle.end c.cycle.now)) (now_becomes x t)) (sym (ap (λ (k : Cycle). unwrap_or k.end k.now) (now-same c x h))) (becomes_same c x (unwrap_or c.cycle.end c.cycle.now) h))

held_at : (t : ℕ) (end : Option ℕ) (xs ys : List ℕ) → phase_after ys ≡ phase_after xs → phase_at t end ys ≡ phase_at t end xs
held_at t end xs ys same = ap (λ (p : Phase). cond (is_end t end) phase.Idle p) same

at_same : (c x : Config) (t : ℕ) → Same c x → Same (with_phase (fired_at c t) (phase_at t c.cycle.end (fired_at c t).processes.runnable)) (with_phase (fired_at x t) (phase_at t x.cycle.end (fired_at x t).processes.runnable))
at_same c x t h =
    let d = due-same (is_at t) (is_due_at t) (now_becomes c t) (now_becomes x t) (becomes_same c x t h) in
    phase_same (fired_at c t) (fired_at x t) (phase_at t c.cycle.end (fired_at c t).processes.runnable) (phase_at t x.cycle.end (fired_at x t).processes.runnable)
    (ap (λ (k : Cycle). phase_at t k.end (fired_at x t).processes.runnable) (now-same c x h)
    ∙ held_at t c.cycle.end (fired_at c t).processes.runnable (fired_at x t).processes.runnable (phase-held (fired_at c t).processes.runnable (fired_at x t).processes.runnable d.alike.runnable)) d

timed_same : (c x : Config) (o : Option ℕ) → Same c x → Same (timed_at c o) (timed_at x o)
timed_same c x None h = over_same c x h
timed_same c x (Some t) h =
    by-tests (is_past t c.cycle.end) (is_past t x.cycle.end) (run_over c) _ (run_over x) _ (ap (λ (k : Cycle). is_past t k.end) (now-same c x h)) (over_same c x h) (at_same c x t h)

pub timed-step : (c x : Config) → Same c x → Same (timed_step c) (timed_step x)
timed-step c x h = subst (λ o. Same (timed_step c) (timed_at x o)) (sym (earliest_same c x h)) (timed_same c x (earliest c) h)
