-- Each step and each taking keeps everything typed.
use Rattle.std.proofs.Common.{◌≡◌, ◌==◌, ◌+◌, ℕ, suc, Bool, true, false, cond, List, [], ◌∷◌, ◌++◌, map, length, slice_get, Option, Some, None, refl, sym, ap, ◌∙◌, subst, ⊎_elim}
use Rattle.std.specs.Prelude.{Result, Ok, Err, IfOk}
use Rattle.std.proofs.lemmas.Bool.{cases_eq}
use Rattle.std.proofs.lemmas.Option.{none-some, same_Some}
use Rattle.sim_model.specs.LogicValues.declared.kinds.Value.{Value}
use Rattle.sim_model.specs.EventCore.declared.event.Ev.TheVariants as ev
use Rattle.sim_model.specs.EventCore.declared.notifications.Pending.{Pending}
use Rattle.sim_model.specs.SignalChannel.Signals.{written, settled}
use Rattle.sim_model.specs.SignalChannel.Drivers.{Driven}
use Rattle.sim_model.specs.SignalChannel.declared.signal.Signal.{Signal}
use Rattle.sim_model.specs.SignalChannel.declared.signal.Changed.{Changed}
use Rattle.sim_model.specs.FifoSync.Fifos.{Queued, after_update}
use Rattle.sim_model.specs.SimTime.declared.moments.Time.{Time}
use Rattle.sim_model.specs.FlatDesign.Code as code
use Rattle.sim_model.specs.FlatDesign.Code.{Statement, statement_at}
use Rattle.sim_model.specs.FlatDesign.Typed.{EachOf}
use Rattle.sim_model.specs.FlatDesign.Sound.{SoundDesign}
use Rattle.sim_model.specs.FlatDesign.declared.design.SignalPart.{SignalPart}
use Rattle.sim_model.specs.FlatDesign.declared.design.ResolvedPart.{ResolvedPart}
use Rattle.sim_model.specs.FlatDesign.declared.design.FifoPart.{FifoPart}
use Rattle.sim_model.specs.FlatDesign.declared.design.ProcessPart.{ProcessPart}
use Rattle.sim_model.specs.FlatDesign.declared.design.Visible.{Visible}
use Rattle.sim_model.specs.FlatDesign.declared.design.VisibleId.{VisibleId}
use Rattle.sim_model.specs.FlatDesign.declared.design.VisibleId.TheVariants as visible_id
use Rattle.sim_model.specs.FlatDesign.declared.design.Design.{Design}
use Rattle.sim_model.specs.FlatDesign.declared.faults.RunFault.{RunFault}
use Rattle.sim_model.specs.Values.{on_ok, time_within}
use Rattle.sim_model.specs.Residual as residual
use Rattle.sim_model.specs.Residual.{Residual, Next, skip, settle, put, taken_off, next_of}
use Rattle.sim_model.specs.Configuration.{Config, Instance, Deadline, no_deadline, arena, change, changed_at, change_instance, instance_at, with_residual, with_runnable, with_stack, with_told, turn}
use Rattle.sim_model.specs.Storing.{passes}
use Rattle.sim_model.specs.Waits.{freed, holds, without, fire, fire_all}
use Rattle.sim_model.specs.Control.{begins, stays_kept, restarts, reaches_goal}
use Rattle.sim_model.specs.Statements.{owed_call, owed_by, on_statement, do_next, settled_in, step_by, statement_step}
use Rattle.sim_model.specs.Phases.{was_some, notified_if, announced, announce_signals, announce_resolved, announce_fifos, resettled_all, channels_updated, update_phase, session_stopped, due_events, due_instances, without_pending, without_deadline, fire_due, is_delta, is_zero_timeout, initialize_each, now_becomes, run_over, is_at, is_due_at, is_past, earliest, timed_at, update_step, unchanged}
use Rattle.sim_model.specs.Steps.{Outcome, ended, as_outcome, shows, sets, sets_visible, run_begun, begin_run, carry_out, next_command, evaluate, step_in, step, turn_line, instance_taken, taken_if, taking}
use Rattle.sim_model.specs.declared.plain.Goal.{Goal}
use Rattle.sim_model.specs.declared.plain.Goal.TheVariants as goal_of
use Rattle.sim_model.specs.declared.plain.Phase.{Phase}
use Rattle.sim_model.specs.declared.plain.Phase.TheVariants as phase
use Rattle.sim_model.specs.declared.plain.Command.{Command}
use Rattle.sim_model.specs.declared.plain.Command.TheVariants as command
use Rattle.laws_runs.proofs.Changes.{change-here, change-other}
use Rattle.laws_runs.specs.Standing.{code_of, IsStanding}
use Rattle.laws_runs.proofs.BodiesKept.{settle-standing}
use Rattle.laws_runs.proofs.Tight.{IsTight, settle-tight}
use Rattle.laws_runs.proofs.Fine.{fine-at}
use Rattle.laws_runs.proofs.GoalMoves.{Sound}
use Rattle.laws_runs.proofs.GoalSteps.{IfWent}
use Rattle.laws_runs.specs.Contents.{Pairwise, IsOf, SignalFits, FifoFits}
use Rattle.laws_runs.proofs.TypedLists.{pair-at, pair-set, pair-map}
use Rattle.laws_runs.specs.Frames.{LeftFits, InstanceFits}
use Rattle.laws_runs.specs.TypedConfig.{FitsVisible, FitsObject, CommandFits, TypesHaveValues}
use Rattle.laws_runs.proofs.EachLists.{each-map}
use Rattle.laws_runs.proofs.TypedLeft.{settle-fits, past-fits}
use Rattle.laws_runs.proofs.TypedWakes.{Alike, fire-keeps, fire_all-keeps, wake_all-keeps}
use Rattle.laws_runs.proofs.TypedMoves.{alike-fits, Fits, same-fits, residual-fits}
use Rattle.laws_runs.proofs.TypedUnwound.{off-fits}
use Rattle.laws_runs.proofs.TypedControls.{control-fits, throw-fits}
use Rattle.laws_runs.proofs.TypedParts.{channels-fit}
use Rattle.laws_runs.proofs.TypedForms.{form-kept}
use Rattle.laws_runs.proofs.TypedEnds.{leaves-fits, ends-fits, done-fits, begins-fits, kept-fits, gone-fits}

-- ---- a statement step

module _ (d : Design) (types : TypesHaveValues d) where
  fits-if : (b : Bool) (c e : Config) → Fits d c → Fits d e → Fits d (cond b c e)
  fits-if true c e one two = one
  fits-if false c e one two = two

  passed : (c : Config) (p : ℕ) (i : Instance) (r : Residual) → instance_at c p ≡ Some i → i.residual ≡ r → Fits d c → Fits d (passes c p r)
  passed c p i r at is k =
      residual-fits d c p (put r skip)
      (λ j there h. past-fits d None j.home r (subst (LeftFits d None j.home) (ap (λ (x : Instance). x.residual) (same_Some j i (sym there ∙ at)) ∙ is) h.left)) k

  -- the body and the first arguments of the instance p are those of i
  module _ (p : ℕ) (i : Instance) where
    abbrev Keeps : List Instance → Type 0
    Keeps is = (j : Instance) × (slice_get is p ≡ Some j) × (j.code ≡ i.code) × (j.arguments ≡ i.arguments)

    change_keeps : (is : List Instance) (q : ℕ) (g : Instance → Instance) → ((x : Instance) → ((g x).code ≡ x.code) × ((g x).arguments ≡ x.arguments)) → Keeps is → Keeps (change is q g)
    change_keeps is q g same h =
        ⊎_elim
        (λ e. (g h.0, subst (λ n. slice_get (change is n g) p ≡ Some (g h.0)) e (change-here is p g h.0 h.1), (same h.0).0 ∙ h.2, (same h.0).1 ∙ h.3))
        (λ apart. (h.0, change-other is q p g apart ∙ h.1, h.2, h.3))
        (cases_eq p q)

    abbrev Both : Config → Type 0
    Both e = Fits d e × Keeps e.processes.instances

    same_both : (e : Config) (q : ℕ) (g : Instance → Instance) → ((x : Instance) → Alike x (g x)) → Both e → Both (change_instance e q g)
    same_both e q g alike h = (same-fits d e q g alike h.0, change_keeps e.processes.instances q g (λ x. ((alike x).code, (alike x).arguments)) h.1)

    restarts_fit : (c : Config) → instance_at c p ≡ Some i → Fits d c → Fits d (restarts c p i)
    restarts_fit c at k =
        let e = change_instance c p (λ j. record j { residual = skip; started = false }) in
        let first : Fits d e = gone-fits d types c p k in
        let after_fire : Both (fire e (ev.Restarted p)) = fire-keeps Both same_both (λ c rs h. h) e (ev.Restarted p) (first, change_keeps c.processes.instances p (λ j. record j { residual = skip; started = false }) (λ x. (refl, refl)) (i, at, refl, refl)) in
        fits-if i.suspended (stays_kept (fire e (ev.Restarted p)) p) (begins (fire e (ev.Restarted p)) p i) (kept-fits d types (fire e (ev.Restarted p)) p after_fire.0)
        (begins-fits d types (fire e (ev.Restarted p)) p i after_fire.0.0
        (λ j there. let same = same_Some after_fire.1.0 j (sym after_fire.1.1 ∙ there) in (sym (ap (λ (x : Instance). x.code) same) ∙ after_fire.1.2, sym (ap (λ (x : Instance). x.arguments) same) ∙ after_fire.1.3)) after_fire.0)

  reaches_fit : (c : Config) (p : ℕ) (i : Instance) (r : Residual) (g : Goal) → instance_at c p ≡ Some i → i.residual ≡ r → Fits d c → Fits d (reaches_goal c p i r g)
  reaches_fit c p i r goal_of.End at is k = ends-fits d types c p k
  reaches_fit c p i r goal_of.Restart at is k = restarts_fit p i c at k
  reaches_fit c p i r goal_of.Thrown at is k = passed c p i r at is k
  reaches_fit c p i r goal_of.Injected at is k =
      let e = passed c p i r at is k in
      fits-if i.suspended (stays_kept (passes c p r) p) (passes c p r) (kept-fits d types (passes c p r) p e) e

-- ---- the configuration in which finished parts have fallen away

module _ (c : Config) (p : ℕ) (i : Instance) (at : instance_at c p ≡ Some i) (r : Residual) (is : i.residual ≡ r) (sound : SoundDesign c.design) (types : TypesHaveValues c.design) (k : Fits c.design c)
    (standing : IsStanding c.design i.home r) (tight : IsTight r) where
  statement_fits : (n : ℕ) → next_of r ≡ residual.statement n → (o : Option Statement) → statement_at (code_of c.design) n ≡ o → IfOk (on_statement c p i r n o) (Fits c.design)
  statement_fits n next None there = passed c.design types c p i r at is k
  statement_fits n next (Some x) there = form-kept c p i at r is sound types k standing n next x there

  off_fits : Fits c.design (with_residual c p (taken_off r))
  off_fits = residual-fits c.design c p (taken_off r) (λ j there h. off-fits c.design None j.home r (subst (LeftFits c.design None j.home) (ap (λ (x : Instance). x.residual) (same_Some j i (sym there ∙ at)) ∙ is) h.left)) k

  call_fits : (q : ℕ) (x : Statement) → IfOk (owed_call (with_residual c p (taken_off r)) q x) (Fits c.design)
  call_fits q (code.control x who all) = control-fits c.design (with_residual c p (taken_off r)) refl off_fits q x
  call_fits q (code.throw_it who e all) = throw-fits c.design (with_residual c p (taken_off r)) refl off_fits q e
  call_fits q other = off_fits

  owed_fits : (q : ℕ) (o : Option Statement) → IfOk (owed_by (with_residual c p (taken_off r)) q o) (Fits c.design)
  owed_fits q None = off_fits
  owed_fits q (Some x) = call_fits q x

  next_fits : (n : Next) → next_of r ≡ n → IfOk (do_next c p i r n) (Fits c.design)
  next_fits (residual.statement n) next = statement_fits n next (statement_at (code_of c.design) n) refl
  next_fits (residual.owes s q) next = owed_fits q (statement_at (code_of c.design) s)
  next_fits (residual.leaves x) next = leaves-fits c p i at r is sound types k tight x next
  next_fits residual.done next = done-fits c.design types c p i i.kind k
  next_fits (residual.reaches g) next = reaches_fit c.design types c p i r g at is k
  next_fits residual.nothing next = done-fits c.design types c p i i.kind k

step_of_fits : (c : Config) (p : ℕ) (o : Option Instance) → instance_at c p ≡ o → Sound c → TypesHaveValues c.design → Fits c.design c → IfOk (step_by c p o) (Fits c.design)
step_of_fits c p None at s types k = k
step_of_fits c p (Some i) at s types k =
    let r = settle (arena c) i.residual in
    let standing : IsStanding c.design i.home r = settle-standing c.design i.home i.residual (fine-at c.design c.processes p i at s.1).standing in
    next_fits (settled_in c p i.residual) p (record i { residual = r }) (change-here c.processes.instances p (λ j. record j { residual = r }) i at) r refl s.0 types
    (residual-fits c.design c p r (λ j there h. settle-left c p i j at there h) k) standing (settle-tight (arena c) i.residual) (next_of r) refl
  where
    settle-left : (c : Config) (p : ℕ) (i j : Instance) → instance_at c p ≡ Some i → slice_get c.processes.instances p ≡ Some j → InstanceFits c.design j → LeftFits c.design None j.home (settle (arena c) i.residual)
    settle-left c p i j at there h =
        settle-fits c.design None j.home i.residual (subst (LeftFits c.design None j.home) (ap (λ (x : Instance). x.residual) (same_Some j i (sym there ∙ at))) h.left)

-- ---- phases

module _ (d : Design) where
  notified_fit : (b : Bool) (e : ℕ) (c : Config) → Fits d c → Fits d (notified_if b e c)
  notified_fit true e c k = k
  notified_fit false e c k = k

  announced_fit : (x : Changed) (events : ℕ) (c : Config) → Fits d c → Fits d (announced x events c)
  announced_fit x events c k = notified_fit x.neg _ _ (notified_fit x.pos _ _ (notified_fit x.changed _ c k))

  signals_fit : (ps : List SignalPart) (ss : List Signal) (c : Config) → Fits d c → Fits d (announce_signals ps ss c)
  signals_fit [] ss c k = k
  signals_fit (p ∷ ps) [] c k = k
  signals_fit (p ∷ ps) (x ∷ ss) c k = signals_fit ps ss _ (announced_fit _ p.events c k)

  resolved_fit : (ps : List ResolvedPart) (rs : List Driven) (bs : List Bool) (c : Config) → Fits d c → Fits d (announce_resolved ps rs bs c)
  resolved_fit [] rs bs c k = k
  resolved_fit (p ∷ ps) [] bs c k = k
  resolved_fit (p ∷ ps) (r ∷ rs) [] c k = k
  resolved_fit (p ∷ ps) (r ∷ rs) (b ∷ bs) c k = resolved_fit ps rs bs _ (announced_fit _ p.events c k)

  fifos_fit : (ps : List FifoPart) (qs : List Queued) (c : Config) → Fits d c → Fits d (announce_fifos ps qs c)
  fifos_fit [] qs c k = k
  fifos_fit (p ∷ ps) [] c k = k
  fifos_fit (p ∷ ps) (q ∷ qs) c k = fifos_fit ps qs _ (notified_fit (was_some q.read) (p.events + 1) _ (notified_fit (was_some q.written) p.events c k))

  value_if : (p : SignalPart) (b : Bool) (v w : Value) → IsOf p.value_type v → IsOf p.value_type w → IsOf p.value_type (cond b v w)
  value_if p true v w one two = one
  value_if p false v w one two = two

  settled_fits : (p : SignalPart) (s : Signal) → SignalFits p s → SignalFits p (settled s)
  settled_fits p s h = (value_if p s.asked s.next s.value h.1 h.0, h.1)

  resettled_length : (rs : List Driven) (bs : List Bool) → length (resettled_all rs bs) ≡ length rs
  resettled_length [] bs = refl
  resettled_length (r ∷ rs) [] = refl
  resettled_length (r ∷ rs) (b ∷ bs) = ap suc (resettled_length rs bs)

  pub update-fits : (c : Config) → Fits d c → Fits d (update_phase c)
  update-fits c k =
      let e = announce_fifos c.design.fifos c.channels.fifos (announce_resolved c.design.resolved c.channels.resolved c.channels.resolved_asked (announce_signals c.design.signals c.channels.signals c)) in
      let fits : Fits d e = fifos_fit c.design.fifos c.channels.fifos _ (resolved_fit c.design.resolved c.channels.resolved c.channels.resolved_asked _ (signals_fit c.design.signals c.channels.signals c k)) in
      channels-fit d e (channels_updated c.channels) (pair-map SignalFits settled settled_fits d.signals c.channels.signals k.1.signals)
      (resettled_length c.channels.resolved c.channels.resolved_asked ∙ k.1.resolved) (pair-map FifoFits after_update (λ p q h. h) d.fifos c.channels.fifos k.1.fifos) fits

  due_fits : (test : Pending → Bool) (time : Deadline → Bool) (c : Config) → Fits d c → Fits d (fire_due test time c)
  due_fits test time c k =
      let cleared = record c { events = map (without_pending test) c.events; processes = record c.processes { instances = map (without_deadline time) c.processes.instances } } in
      let fired = fire_all (due_events test 0 c.events) cleared in
      let first : Fits d cleared = (k.0, k.1, each-map (InstanceFits d) (InstanceFits d) (without_deadline time) (λ i h. alike-fits d i (without_deadline time i) (timeless time i) h) c.processes.instances k.2, k.3) in
      wake_all-keeps (Fits d) (same-fits d) (λ c rs h. h) (due_instances time 0 c.processes.instances) fired (fire_all-keeps (Fits d) (same-fits d) (λ c rs h. h) (due_events test 0 c.events) cleared first)
    where
      timeless_if : (b : Bool) (i : Instance) → Alike i (cond b (record i { deadline = no_deadline }) i)
      timeless_if true i = record { home = refl; code = refl; arguments = refl; residual = refl }
      timeless_if false i = record { home = refl; code = refl; arguments = refl; residual = refl }

      timeless : (time : Deadline → Bool) (i : Instance) → Alike i (without_deadline time i)
      timeless time i = timeless_if (time i.deadline) i

  phase-if : (b : Bool) (c e : Config) → Fits d c → Fits d e → Fits d (cond b c e)
  phase-if true c e one two = one
  phase-if false c e one two = two

  initialize_fit : (p : ℕ) (xs : List ProcessPart) (c : Config) → Fits d c → Fits d (initialize_each p xs c)
  initialize_fit p [] c k = k
  initialize_fit p (x ∷ xs) c k =
      phase-if x.dont_initialize (initialize_each (suc p) xs c) (initialize_each (suc p) xs (with_runnable (change_instance c p freed) (c.processes.runnable ++ p ∷ []))) (initialize_fit (suc p) xs c k)
      (initialize_fit (suc p) xs (with_runnable (change_instance c p freed) (c.processes.runnable ++ p ∷ [])) (same-fits d c p freed (λ i. record { home = refl; code = refl; arguments = refl; residual = refl }) k))

  now_fits : (c : Config) (t : ℕ) → Fits d c → Fits d (now_becomes c t)
  now_fits c t k = phase-if (t == c.cycle.now) c _ k (channels-fit d c (unchanged c.channels) k.1.signals k.1.resolved k.1.fifos k)

  timed_fits : (c : Config) (t : Option ℕ) → Fits d c → Fits d (timed_at c t)
  timed_fits c None k = now_fits c _ k
  timed_fits c (Some t) k = phase-if (is_past t c.cycle.end) (run_over c) _ (now_fits c _ k) (due_fits (is_at t) (is_due_at t) (now_becomes c t) (now_fits c t k))

  update_step_fits : (c : Config) → Fits d c → Fits d (update_step c)
  update_step_fits c k = phase-if c.cycle.stop_asked (session_stopped (update_phase c)) _ (update-fits c k) (update-fits c k)

  -- ---- commands

  until_fits : (c : Config) (m : Result ℕ RunFault) → Fits d c → IfWent (as_outcome (on_ok m (λ end. Ok (run_begun c (Some end))))) (Fits d)
  until_fits c (Ok end) k = k
  until_fits c (Err f) k = tt

  begin_fits : (c : Config) (t : Option Time) → Fits d c → IfWent (as_outcome (begin_run c t)) (Fits d)
  begin_fits c None k = k
  begin_fits c (Some t) k = until_fits c (time_within (c.cycle.now + t.0)) k

  shown_fits : (c : Config) (v : Option Visible) → Fits d c → Fits d (shows c v)
  shown_fits c None k = k
  shown_fits c (Some v) k = k

  written_pairs : (n : ℕ) (v : Value) → ((p : SignalPart) → slice_get d.signals n ≡ Some p → IsOf p.value_type v) → (ss : List Signal) → Pairwise SignalFits d.signals ss → (o : Option Signal) → slice_get ss n ≡ o → Pairwise SignalFits d.signals (changed_at ss n (written None v) o)
  written_pairs n v typed ss h None at = h
  written_pairs n v typed ss h (Some s) at = pair-set SignalFits d.signals ss n (written None v s) (λ x there. ((pair-at SignalFits d.signals ss n x s h there at).0, typed x there)) h

  set_fits : (c : Config) (v : Value) (x : VisibleId) → FitsVisible d v x → Fits d c → Fits d (sets c v x)
  set_fits c v (visible_id.Signal n) typed k =
      channels-fit d c (record c.channels { signals = change c.channels.signals n (written None v) }) (written_pairs n v typed c.channels.signals k.1.signals (slice_get c.channels.signals n) refl) k.1.resolved k.1.fifos k
  set_fits c v (visible_id.Resolved n) typed k = k

  set_visible_fits : (c : Config) (v : Value) (x : Option Visible) → FitsObject d v x → Fits d c → Fits d (sets_visible c v x)
  set_visible_fits c v None typed k = k
  set_visible_fits c v (Some x) typed k = set_fits c v x.id typed k

  command_fits : (c : Config) (y : Command) → CommandFits d y → Fits d c → IfWent (as_outcome (carry_out c y)) (Fits d)
  command_fits c (command.Run t) typed k = begin_fits c t k
  command_fits c (command.Set i v) typed k = set_visible_fits c v (slice_get c.design.visible i) (subst (λ (x : Design). FitsObject d v (slice_get x.visible i)) (sym k.0) typed) k
  command_fits c (command.Show i) typed k = shown_fits c (slice_get c.design.visible i) k

  script_fits : (c : Config) (ks : List Command) → c.script ≡ ks → Fits d c → IfWent (next_command c ks) (Fits d)
  script_fits c [] is k = tt
  script_fits c (y ∷ ks) is k =
      let left = subst (EachOf (CommandFits d)) is k.3 in
      command_fits (record c { script = ks }) y left.0 (k.0, k.1, k.2, left.1)

-- ---- steps

went_fits : (d : Design) (m : Result Config RunFault) → IfOk m (Fits d) → IfWent (as_outcome m) (Fits d)
went_fits d (Ok e) k = k
went_fits d (Err f) k = tt

evaluate_fits : (c : Config) (stack runnable : List ℕ) → Sound c → TypesHaveValues c.design → Fits c.design c → IfWent (evaluate c stack runnable) (Fits c.design)
evaluate_fits c (p ∷ rest) runnable s types k = went_fits c.design (statement_step c p) (step_of_fits c p (instance_at c p) refl s types k)
evaluate_fits c [] (q ∷ runnable) s types k = tt
evaluate_fits c [] [] s types k = update_step_fits c.design c k

phase_fits : (c : Config) (ph : Phase) → Sound c → TypesHaveValues c.design → Fits c.design c → IfWent (step_in c ph) (Fits c.design)
phase_fits c phase.Idle s types k = script_fits c.design c c.script refl k
phase_fits c phase.Start s types k = due_fits c.design is_delta is_zero_timeout (initialize_each 0 c.design.processes (update_phase c)) (initialize_fit c.design 0 c.design.processes (update_phase c) (update-fits c.design c k))
phase_fits c phase.Evaluate s types k = evaluate_fits c c.processes.stack c.processes.runnable s types k
phase_fits c phase.Notify s types k = due_fits c.design is_delta is_zero_timeout c k
phase_fits c phase.Timed s types k = timed_fits c.design c (earliest c) k

unless_stopped : (b : Bool) (P : Config → Type 0) (o : Outcome) → IfWent o P → IfWent (cond b ended o) P
unless_stopped true P o h = tt
unless_stopped false P o h = h

pub step-fits : (c : Config) → Sound c → TypesHaveValues c.design → Fits c.design c → IfWent (step c) (Fits c.design)
step-fits c s types k = unless_stopped c.cycle.stopped (Fits c.design) (step_in c c.cycle.phase) (phase_fits c c.cycle.phase s types k)

-- ---- takings

module _ (d : Design) (types : TypesHaveValues d) where
  begun_fits : (b : Bool) (c e : Config) (p : ℕ) (i : Instance) → Fits d c → Fits d (begins e p i) → Fits d (cond b c (begins e p i))
  begun_fits true c e p i one two = one
  begun_fits false c e p i one two = two

  taken_fits : (c : Config) (p : ℕ) (o : Option Instance) → instance_at c p ≡ o → Fits d c → Fits d (instance_taken c p o)
  taken_fits c p None at k = k
  taken_fits c p (Some i) at k =
      let e = with_told (with_stack (with_runnable c (without c.processes.runnable p)) (p ∷ [])) (turn (turn_line c.cycle.now i.path p)) in
      let g = change_instance e p (λ j. record j { trigger = None }) in
      begun_fits i.started e g p i k
      (begins-fits d types g p i k.0
      (λ j there. let same = same_Some (record i { trigger = None }) j (sym (change-here c.processes.instances p (λ j. record j { trigger = None }) i at) ∙ there) in (sym (ap (λ (x : Instance). x.code) same), sym (ap (λ (x : Instance). x.arguments) same)))
      (same-fits d e p (λ j. record j { trigger = None }) (λ j. record { home = refl; code = refl; arguments = refl; residual = refl }) k))

  taken_if_fits : (c e : Config) (p : ℕ) (b : Bool) → Fits d c → taken_if c p b ≡ Some e → Fits d e
  taken_if_fits c e p true k to = subst (Fits d) (same_Some (instance_taken c p (instance_at c p)) e to) (taken_fits c p (instance_at c p) refl k)
  taken_if_fits c e p false k to = absurd (none-some e to)

  pub taking-fits : (c : Config) (p : ℕ) (e : Config) → Fits d c → taking c p ≡ Some e → Fits d e
  taking-fits c p e k to = taken_if_fits c e p (holds c.processes.runnable p) k to
