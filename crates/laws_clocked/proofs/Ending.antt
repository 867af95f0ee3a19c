-- A step of another, or of a phase behind initialization, that fires no event of the static sensitivity of p leaves it waiting.
use Rattle.std.proofs.Common.{◌≡◌, ◌≢◌, ℕ, ◌==◌, Bool, true, false, cond, List, [], ◌∷◌, map, slice_get, Option, Some, None, refl, ap, subst, arith}
use Rattle.std.specs.Prelude.{Result, Ok, Err, unwrap_or}
use Rattle.std.specs.Result.{IfOk}
use Rattle.std.proofs.lemmas.Option.{none-some, same_Some}
use Rattle.laws_runs.specs.LogicValues.declared.kinds.Value.TheVariants as value
use Rattle.laws_runs.specs.LogicValues.declared.kinds.Value.{Value}
use Rattle.laws_runs.specs.SimTime.declared.moments.Time.{Time}
use Rattle.laws_runs.specs.ModelTree.declared.items.ProcessKind.{ProcessKind}
use Rattle.laws_runs.specs.ModelTree.declared.items.ProcessKind.TheVariants as process
use Rattle.laws_runs.specs.EventCore.declared.event.Ev.{Ev}
use Rattle.laws_runs.specs.EventCore.declared.event.Ev.TheVariants as ev
use Rattle.laws_runs.specs.EventCore.declared.notifications.Pending.{Pending}
use Rattle.laws_runs.specs.SignalChannel.Drivers.{Driven}
use Rattle.laws_runs.specs.SignalChannel.declared.signal.Signal.{Signal}
use Rattle.laws_runs.specs.SignalChannel.declared.signal.Changed.{Changed}
use Rattle.laws_runs.specs.FifoSync.Fifos.{Queued}
use Rattle.laws_runs.specs.TransportPhases.History.{Entry, Return, BReturn, broken}
use Rattle.laws_runs.specs.TransportPhases.declared.phases.Rule.{Rule}
use Rattle.laws_runs.specs.FlatDesign.Code as code
use Rattle.laws_runs.specs.FlatDesign.Code.{Statement, statement_at}
use Rattle.laws_runs.specs.FlatDesign.declared.design.SignalPart.{SignalPart}
use Rattle.laws_runs.specs.FlatDesign.declared.design.ResolvedPart.{ResolvedPart}
use Rattle.laws_runs.specs.FlatDesign.declared.design.FifoPart.{FifoPart}
use Rattle.laws_runs.specs.FlatDesign.declared.design.Visible.{Visible}
use Rattle.laws_runs.specs.FlatDesign.declared.design.VisibleId.{VisibleId}
use Rattle.laws_runs.specs.FlatDesign.declared.design.VisibleId.TheVariants as visible_id
use Rattle.laws_runs.specs.FlatDesign.declared.faults.RunFault.{RunFault}
use Rattle.laws_runs.specs.SimModel.Values.{on_ok, time_within}
use Rattle.laws_runs.specs.SimModel.Residual as residual
use Rattle.laws_runs.specs.SimModel.Residual.{Residual, Frame, Next, skip, begun, settle, put, next_of, taken_off}
use Rattle.laws_runs.specs.SimModel.Configuration.{Config, Instance, Deadline, no_deadline, arena, instance_at, change_instance, with_residual, with_phase}
use Rattle.laws_runs.specs.SimModel.Reading.{Here, here}
use Rattle.laws_runs.specs.SimModel.Waits.{fire, fire_all, leaves_stack}
use Rattle.laws_runs.specs.SimModel.Storing.{passes, set_name, stored_if}
use Rattle.laws_runs.specs.SimModel.Calls.{answer_of, final_value}
use Rattle.laws_runs.specs.SimModel.Transport.{int_of, history, judged, judged_by, judged_return, for_freed, b_transport_ends, nb_transport_ends, complete_now}
use Rattle.laws_runs.specs.SimModel.Control.{ended_instance, begins, stays_kept, reaches_goal, done_by}
use Rattle.laws_runs.specs.SimModel.Statements.{via_ends, hands_back, handed_back, calling_statement, owed_call, owed_by, on_statement, do_next, settled_in, step_by, statement_step}
use Rattle.laws_runs.specs.SimModel.Phases.{unchanged, notified_if, announced, announce_signals, announce_resolved, announce_fifos, was_some, update_phase, update_step, session_stopped, due_events, without_pending, without_deadline, fire_due, is_delta, is_zero_timeout, is_at, is_due_at, is_past, phase_at, now_becomes, with_snapshot, run_over, fired_at, timed_at, earliest}
use Rattle.laws_runs.specs.SimModel.Steps.{Outcome, went, faulted, takes, ended, as_outcome, shows, sets, sets_visible, run_begun, begin_run, carry_out, next_command, evaluate, step_in, step, instance_taken, taken_if, taking}
use Rattle.laws_runs.specs.SimModel.declared.plain.Command.{Command}
use Rattle.laws_runs.specs.SimModel.declared.plain.Command.TheVariants as command
use Rattle.laws_runs.specs.SimModel.declared.plain.Goal.{Goal}
use Rattle.laws_runs.specs.SimModel.declared.plain.Goal.TheVariants as goal_of
use Rattle.laws_runs.specs.SimModel.declared.plain.Phase.{Phase}
use Rattle.laws_runs.specs.SimModel.declared.plain.Phase.TheVariants as phase
use Rattle.laws_runs.specs.SimModel.declared.plain.Via.{Via}
use Rattle.laws_runs.specs.SimModel.Clean.{times}
use Rattle.laws_runs.proofs.Times.{times-here}
use Rattle.laws_runs.specs.Moves.{IsLater}
use Rattle.laws_clocked.specs.Fired.{by_statement_if, by_end, by_goal, by_next, in_turn_of, in_evaluation, at_time, in_phase, fires_of}
use Rattle.laws_clocked.proofs.Rousing.{IsStill, RestsIn, Rests, Quiet, rests_if, fire_one-rests, fire_all-rests, due-rests, freed-rests}
use Rattle.laws_clocked.proofs.Carrying.{if_went-ok, own, passed, placed, name_rests, stored_if_rests, call_ends_rests, control_rests, throw_rests, form_rests}

abbrev IfWent : Outcome → (Config → Type 0) → Type 0
IfWent (went d) P = P d
IfWent (faulted f) P = Unit {0}
IfWent takes P = Unit {0}
IfWent ended P = Unit {0}

module _ (p : ℕ) (l : List Ev) where
  abbrev Q : Config → Type 0
  Q = Rests p l

  -- ---- in a turn of q

  module _ (q : ℕ) (apart : p ≢ q) where
    module _ (c : Config) (i : Instance) (r : Residual) (s : Q c) where
      past : Q (passes c q r)
      past = passed p l q apart c r s

      ends_rests : Quiet p l (ev.Terminated q ∷ []) → Q (fire (leaves_stack (change_instance c q ended_instance)) (ev.Terminated q))
      ends_rests quiet = fire_one-rests p l (leaves_stack (change_instance c q ended_instance)) (ev.Terminated q) quiet (own p l q apart c ended_instance s)

      done_rests : (k : ProcessKind) → Quiet p l (by_end q k) → Q (done_by c q i k)
      done_rests process.Thread quiet = ends_rests quiet
      done_rests process.Method quiet = own p l q apart c _ s

      kept_rests : (d : Config) → Q d → Q (stays_kept d q)
      kept_rests d k = own p l q apart d _ k

      goal_rests : (k : Goal) → Quiet p l (by_goal q k) → Q (reaches_goal c q i r k)
      goal_rests goal_of.End quiet = ends_rests quiet
      goal_rests goal_of.Restart quiet =
          let bare = change_instance c q (λ j. record j { residual = skip; started = false }) in
          let d = fire bare (ev.Restarted q) in
          let h = fire_one-rests p l bare (ev.Restarted q) quiet (own p l q apart c (λ j. record j { residual = skip; started = false }) s) in
          rests_if p l i.suspended (stays_kept d q) (begins d q i) (kept_rests d h) (own p l q apart d _ h)
      goal_rests goal_of.Thrown quiet = past
      goal_rests goal_of.Injected quiet = rests_if p l i.suspended (stays_kept (passes c q r) q) (passes c q r) (kept_rests (passes c q r) past) past

      -- a call that ends
      freed_rests : (d : Config) (t : ℕ) (m : Result Config RunFault) → IfOk m Q → IfOk (for_freed d t m) Q
      freed_rests d t (Ok x) k = k
      freed_rests d t (Err f) k = tt

      judged_rests : (d : Config) (hop : ℕ) (e : Entry) (t : ℕ) (b : Option Rule) → Q d → IfOk (judged_by d hop e t b) Q
      judged_rests d hop e t None k = k
      judged_rests d hop e t (Some rule) k = tt

      return_rests : (d : Config) (hop : ℕ) (e : Entry) (t : ℕ) → Q d → IfOk (judged_return d hop e t) Q
      return_rests d hop e t k = freed_rests d t (judged d hop e t) (judged_rests d hop e t (broken (history d hop) e) k)

      via_rests : (v : Option Via) (f : Via → Result Config RunFault) → ((via : Via) → IfOk (f via) Q) → IfOk (via_ends (passes c q r) v f) Q
      via_rests None f each = past
      via_rests (Some via) f each = each via

      hands_rests : (b : Here) (x : Frame) (y : Statement) → IfOk (hands_back (passes c q r) q b x y) Q
      hands_rests b x (code.call target f arguments) = call_ends_rests p l q apart (passes c q r) b x target arguments past
      hands_rests b x (code.nb_transport target socket n phase_ d) =
          let old = passes c q r in
          let one_ = final_value x 1 (value.Int 32 0) in
          let two = final_value x 2 (value.Moment 0) in
          via_rests x.via (λ via. nb_transport_ends old q b x via target phase_ d) (λ via.
          let e = Return via.payload (int_of (answer_of (arena old) x)) (int_of one_) (complete_now old via.payload) in
          if_went-ok p l q apart (judged_return old via.hop e via.payload) (λ y. Ok (stored_if (set_name (set_name y q b phase_ one_) q b d two) q b target (answer_of (arena old) x)))
          (return_rests old via.hop e via.payload past) (λ y k.
          stored_if_rests p l q apart (set_name (set_name y q b phase_ one_) q b d two) b target (answer_of (arena old) x)
          (name_rests p l q apart (set_name y q b phase_ one_) b d two (name_rests p l q apart y b phase_ one_ k))))
      hands_rests b x (code.b_transport socket n d) =
          let old = passes c q r in
          let one_ = final_value x 1 (value.Moment 0) in
          via_rests x.via (λ via. b_transport_ends old q b x via d) (λ via.
          let e = BReturn via.payload (complete_now old via.payload) in
          if_went-ok p l q apart (judged_return old via.hop e via.payload) (λ y. Ok (set_name y q b d one_)) (return_rests old via.hop e via.payload past) (λ y k. name_rests p l q apart y b d one_ k))
      hands_rests b x other_ = past

      handed_rests : (b : Here) (x : Frame) (y : Option Statement) → IfOk (handed_back (passes c q r) q b x y) Q
      handed_rests b x None = past
      handed_rests b x (Some y) = hands_rests b x y

      off : Q (with_residual c q (taken_off r))
      off = placed p l q apart c (taken_off r) s

      owed_rests : (n : ℕ) (y : Statement) → IfOk (owed_call (with_residual c q (taken_off r)) n y) Q
      owed_rests n (code.control k whom all) = control_rests p l q apart (with_residual c q (taken_off r)) n k off
      owed_rests n (code.throw_it whom e all) = throw_rests p l q apart (with_residual c q (taken_off r)) n e off
      owed_rests n other_ = off

      owed_if : (n : ℕ) (y : Option Statement) → IfOk (owed_by (with_residual c q (taken_off r)) n y) Q
      owed_if n None = off
      owed_if n (Some y) = owed_rests n y

      on_rests : (n : ℕ) (x : Option Statement) → Quiet p l (by_statement_if c q (here c q i r) x) → IfOk (on_statement c q i r n x) Q
      on_rests n None quiet = past
      on_rests n (Some x) quiet = form_rests p l q apart c r (here c q i r) s i n x quiet

      next_rests : (k : Next) → Quiet p l (by_next c q i (here c q i r) k) → IfOk (do_next c q i r k) Q
      next_rests (residual.statement n) quiet = on_rests n (statement_at (arena c) n) quiet
      next_rests (residual.owes n m) quiet = owed_if m (statement_at (arena c) n)
      next_rests (residual.leaves x) quiet = handed_rests (here (passes c q r) q i (put r skip)) x (calling_statement c x.call)
      next_rests residual.done quiet = done_rests i.kind quiet
      next_rests (residual.reaches k) quiet = goal_rests k quiet
      next_rests residual.nothing quiet = done_rests i.kind quiet

    turn_rests : (c : Config) → Q c → (x : Option Instance) → Quiet p l (in_turn_of c q x) → IfOk (step_by c q x) Q
    turn_rests c s None quiet = s
    turn_rests c s (Some i) quiet =
        let r = settle (arena c) i.residual in
        next_rests (settled_in c q i.residual) (record i { residual = r }) r (placed p l q apart c r s) (next_of r) quiet

  -- ---- the update phase

  notified_rests : (b : Bool) (e : ℕ) (d : Config) → Q d → Q (notified_if b e d)
  notified_rests true e d s = s
  notified_rests false e d s = s

  announced_rests : (x : Changed) (events : ℕ) (d : Config) → Q d → Q (announced x events d)
  announced_rests x events d s = notified_rests x.neg _ _ (notified_rests x.pos _ _ (notified_rests x.changed events d s))

  signals_rests : (ps : List SignalPart) (ss : List Signal) (d : Config) → Q d → Q (announce_signals ps ss d)
  signals_rests [] ss d s = s
  signals_rests (x ∷ ps) [] d s = s
  signals_rests (x ∷ ps) (y ∷ ss) d s = signals_rests ps ss _ (announced_rests _ x.events d s)

  resolved_rests : (ps : List ResolvedPart) (rs : List Driven) (bs : List Bool) (d : Config) → Q d → Q (announce_resolved ps rs bs d)
  resolved_rests [] rs bs d s = s
  resolved_rests (x ∷ ps) [] bs d s = s
  resolved_rests (x ∷ ps) (r ∷ rs) [] d s = s
  resolved_rests (x ∷ ps) (r ∷ rs) (b ∷ bs) d s = resolved_rests ps rs bs _ (announced_rests _ x.events d s)

  fifos_rests : (ps : List FifoPart) (qs : List Queued) (d : Config) → Q d → Q (announce_fifos ps qs d)
  fifos_rests [] qs d s = s
  fifos_rests (x ∷ ps) [] d s = s
  fifos_rests (x ∷ ps) (y ∷ qs) d s = fifos_rests ps qs _ (notified_rests (was_some y.read) _ _ (notified_rests (was_some y.written) _ d s))

  updated_rests : (c : Config) → Q c → Q (update_phase c)
  updated_rests c s = fifos_rests c.design.fifos c.channels.fifos _ (resolved_rests c.design.resolved c.channels.resolved c.channels.resolved_asked _ (signals_rests c.design.signals c.channels.signals c s))

  update_rests : (c : Config) → Q c → Q (update_step c)
  update_rests c s = rests_if p l c.cycle.stop_asked (session_stopped (update_phase c)) (with_phase (update_phase c) phase.Notify) (updated_rests c s) (updated_rests c s)

  -- ---- what falls due

  due_step : (test : Pending → Bool) (time : Deadline → Bool) → time no_deadline ≡ false → (c : Config) → (h : RestsIn p l c.processes.instances) → IsStill p l h.instance → Quiet p l (due_events test 0 c.events) → Q (fire_due test time c)
  due_step test time not c h still quiet =
      let d = record c { events = map (without_pending test) c.events; processes = record c.processes { instances = map (without_deadline time) c.processes.instances } } in
      due-rests p l time not c (fire_all (due_events test 0 c.events) d) h still
      (fire_all-rests p l (due_events test 0 c.events) d quiet (freed-rests p l time not c.processes.instances h))

  now_as : (c : Config) (t : ℕ) (P : Config → Type 0) → P c → P (let d = with_snapshot c in record d { cycle = record d.cycle { now = t }; channels = unchanged d.channels }) → P (now_becomes c t)
  now_as c t P one_ two = by (t == c.cycle.now)
    where
      by : (b : Bool) → P (cond b c (let d = with_snapshot c in record d { cycle = record d.cycle { now = t }; channels = unchanged d.channels }))
      by true = one_
      by false = two

  over_rests : (c : Config) → Q c → Q (run_over c)
  over_rests c s = now_as c (unwrap_or c.cycle.end c.cycle.now) Q s s

  fired_rests : (c : Config) (t : ℕ) → (h : RestsIn p l c.processes.instances) → IsStill p l h.instance → Quiet p l (due_events (is_at t) 0 c.events) → Q (fired_at c t)
  fired_rests c t h still quiet =
      now_as c t (λ x. Q (fire_due (is_at t) (is_due_at t) x)) (due_step (is_at t) (is_due_at t) refl c h still quiet)
      (due_step (is_at t) (is_due_at t) refl (let d = with_snapshot c in record d { cycle = record d.cycle { now = t }; channels = unchanged d.channels }) h still quiet)

  timed_if : (c : Config) (t : ℕ) → (h : RestsIn p l c.processes.instances) → IsStill p l h.instance → (b : Bool) → Quiet p l (cond b [] (due_events (is_at t) 0 c.events)) → Q (cond b (run_over c) (with_phase (fired_at c t) (phase_at t c.cycle.end (fired_at c t).processes.runnable)))
  timed_if c t h still true quiet = over_rests c h
  timed_if c t h still false quiet = fired_rests c t h still quiet

  timed_rests : (c : Config) → (h : RestsIn p l c.processes.instances) → IsStill p l h.instance → (t : Option ℕ) → Quiet p l (at_time c t) → Q (timed_at c t)
  timed_rests c h still None quiet = over_rests c h
  timed_rests c h still (Some t) quiet = timed_if c t h still (is_past t c.cycle.end) quiet

  -- ---- commands

  shown_rests : (c : Config) (v : Option Visible) → Q c → Q (shows c v)
  shown_rests c None s = s
  shown_rests c (Some v) s = s

  set_rests : (c : Config) (v : Value) (x : Option Visible) → Q c → Q (sets_visible c v x)
  set_rests c v None s = s
  set_rests c v (Some x) s = by x.id
    where
      by : (y : VisibleId) → Q (sets c v y)
      by (visible_id.Signal n) = s
      by (visible_id.Resolved n) = s

  begin_rests : (c : Config) (d : Option Time) → Q c → IfOk (begin_run c d) Q
  begin_rests c None s = s
  begin_rests c (Some d) s = by (time_within _)
    where
      by : (m : Result ℕ RunFault) → IfOk (on_ok m (λ end. Ok (run_begun c (Some end)))) Q
      by (Ok end) = s
      by (Err f) = tt

  command_rests : (c : Config) (k : Command) → Q c → IfOk (carry_out c k) Q
  command_rests c (command.Run d) s = begin_rests c d s
  command_rests c (command.Set i v) s = set_rests c v (slice_get c.design.visible i) s
  command_rests c (command.Show i) s = shown_rests c (slice_get c.design.visible i) s

  -- ---- steps

  went_if : (m : Result Config RunFault) → IfOk m Q → IfWent (as_outcome m) Q
  went_if (Ok d) s = s
  went_if (Err f) s = tt

  script_rests : (c : Config) (ks : List Command) → Q c → IfWent (next_command c ks) Q
  script_rests c [] s = tt
  script_rests c (k ∷ ks) s = went_if (carry_out (record c { script = ks }) k) (command_rests (record c { script = ks }) k s)

  off_top : (q : ℕ) (rest : List ℕ) → times p (q ∷ rest) ≡ 0 → p ≢ q
  off_top q rest off same =
      let here_ = times-here p rest in
      let is = ap (λ n. times p (n ∷ rest)) same in
      omega (arith, here_, is, off)

  evaluate_rests : (c : Config) → Q c → (stack runnable : List ℕ) → times p stack ≡ 0 → Quiet p l (in_evaluation c stack) → IfWent (evaluate c stack runnable) Q
  evaluate_rests c s (q ∷ rest) runnable none quiet = went_if (statement_step c q) (turn_rests q (off_top q rest none) c s (instance_at c q) quiet)
  evaluate_rests c s [] (q ∷ runnable) none quiet = tt
  evaluate_rests c s [] [] none quiet = update_rests c s

  phase_rests : (c : Config) → (h : RestsIn p l c.processes.instances) → IsStill p l h.instance → times p c.processes.stack ≡ 0 → (ph : Phase) → IsLater ph → Quiet p l (in_phase c ph) → IfWent (step_in c ph) Q
  phase_rests c h still none phase.Idle later quiet = script_rests c c.script h
  phase_rests c h still none phase.Start later quiet = absurd later
  phase_rests c h still none phase.Evaluate later quiet = evaluate_rests c h c.processes.stack c.processes.runnable none quiet
  phase_rests c h still none phase.Notify later quiet = due_step is_delta is_zero_timeout refl c h still quiet
  phase_rests c h still none phase.Timed later quiet = timed_rests c h still (earliest c) quiet

  unless_stopped : (c : Config) (b : Bool) (es : List Ev) (x : Outcome) → Quiet p l (cond b [] es) → (Quiet p l es → IfWent x Q) → IfWent (cond b ended x) Q
  unless_stopped c true es x quiet h = tt
  unless_stopped c false es x quiet h = h quiet

  -- a step that fires no event of the static sensitivity of p, which waits for that alone and is off the stack
  pub quiet-step : (c d : Config) → step c ≡ went d → IsLater c.cycle.phase → times p c.processes.stack ≡ 0 → (h : RestsIn p l c.processes.instances) → IsStill p l h.instance → fires_of c l ≡ false → Q d
  quiet-step c d to later off h still quiet =
      subst (λ x. IfWent x Q) to (unless_stopped c c.cycle.stopped (in_phase c c.cycle.phase) (step_in c c.cycle.phase) quiet (λ no. phase_rests c h still off c.cycle.phase later no))

  -- the taking of another
  begins_rests : (q : ℕ) → p ≢ q → (d : Config) (i : Instance) → Q d → (b : Bool) → Q (cond b d (begins (change_instance d q (λ j. record j { trigger = None })) q i))
  begins_rests q apart d i s true = s
  begins_rests q apart d i s false =
      let x = change_instance d q (λ j. record j { trigger = None }) in
      own p l q apart x (λ j. record j { residual = begun (arena x) i.code i.arguments; started = true }) (own p l q apart d (λ j. record j { trigger = None }) s)

  instance_rests : (q : ℕ) → p ≢ q → (c : Config) → Q c → (x : Option Instance) → Q (instance_taken c q x)
  instance_rests q apart c s None = s
  instance_rests q apart c s (Some i) = begins_rests q apart _ i s i.started

  pub taking-rests : (q : ℕ) → p ≢ q → (c d : Config) → taking c q ≡ Some d → Q c → Q d
  taking-rests q apart c d to s = by _ to
    where
      by : (b : Bool) → taken_if c q b ≡ Some d → Q d
      by true is = subst Q (same_Some (instance_taken c q (instance_at c q)) d is) (instance_rests q apart c s (instance_at c q))
      by false is = absurd (none-some d is)
