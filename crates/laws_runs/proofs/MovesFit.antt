-- Each move keeps who stands where: what is runnable or active was made and has not ended, stands there once, and waits for nothing.
use Rattle.std.proofs.Common.{◌≡◌, ◌≢◌, ◌+◌, ◌<◌, ℕ, Bool, true, false, cond, List, [], ◌∷◌, ◌++◌, drop, length, slice_get, Option, Some, None, refl, sym, ap, ◌∙◌, subst, arith}
use Rattle.std.proofs.lemmas.Option.{same_Some}
use Rattle.sim_model.specs.LogicValues.declared.kinds.Value.{Value}
use Rattle.sim_model.specs.FlatDesign.Code.{SpawnTerm}
use Rattle.sim_model.specs.Residual.{Residual, goal, skip, put, taken_off, guard, block, entered, in_innermost}
use Rattle.sim_model.specs.Unwinding.{unw, raise, returned, left_by_unw, left_by_raise}
use Rattle.sim_model.specs.Configuration.{Config, Instance, Processes, Wait, waits_for_nothing, waits_statically, Deadline, change, change_instance, instance_at, with_residual, arena}
use Rattle.sim_model.specs.Reading.{Here}
use Rattle.sim_model.specs.Waits.{holds, without, freed, leaves_stack}
use Rattle.sim_model.specs.Storing.{passes, with_local}
use Rattle.sim_model.specs.Calls.{with_left, with_entry, new_instance, added, runnable_unless}
use Rattle.sim_model.specs.Control.{is_top, is_below_top, with_kept, pushed, ended_instance}
use Rattle.sim_model.specs.Phases.{is_zero_timeout, is_due_at}
use Rattle.sim_model.specs.Clean.{times, IsFree}
use Rattle.sim_model.specs.declared.plain.Goal.TheVariants as goal_of
use Rattle.sim_model.specs.declared.plain.Via.{Via}
use Rattle.laws_runs.specs.Moves as move
use Rattle.laws_runs.specs.Moves.{made, with_suspended, with_resumed, turn_taken}
use Rattle.laws_runs.proofs.MovesKeep.{EachKeeps}
use Rattle.laws_runs.proofs.Times.{times-here, times-other, times-cut_here, times-cut_other, times-last_here, times-last_other, times-holds, times-lacks, times-drop}
use Rattle.laws_runs.proofs.Changes.{change-here, change-other, last-here, last-other, past-end}
use Rattle.laws_runs.proofs.InstancesFit.{Stands, Fits, AllFit, Moved, stands-at, never, nowhere-if, stands-nowhere, stands-kept, stands-over, stands-free, moved-to, changed-move, alike-fits}
use Rattle.laws_runs.proofs.WokenFit.{woken-fits, struck-fits}
use Rattle.laws_runs.proofs.PhaseMoves.{timeless-fits}
use Rattle.laws_runs.proofs.StackPlaces.{and-left, top-is, off-stack}

-- ---- a live instance gets another residual

live_residual : (c : Config) (q : ℕ) (x : Residual) → ((i : Instance) → instance_at c q ≡ Some i → i.ended ≡ false) → AllFit c.processes → AllFit (with_residual c q x).processes
live_residual c q x live fits =
    alike-fits c.processes q _ (λ i at. record { wait = refl; deadline = refl; kept = refl; suspended = refl; ended = refl; left = λ e over. never i.ended (live i at) e }) fits

-- calls that are left move no process
left_fits : (vias : List Via) (c : Config) → AllFit c.processes → AllFit (with_left c vias).processes
left_fits [] c h = h
left_fits (via ∷ more) c h = left_fits more (with_entry c via.hop _) h

-- ---- the instance on top of the stack

left_move : (ps : Processes) (p : ℕ) (f : Instance → Instance) → Moved p ps (record { runnable = ps.runnable; stack = drop 1 ps.stack; instances = change ps.instances p f; parents = ps.parents })
left_move ps p f = record {
  others = λ q apart. change-other ps.instances p q f apart;
  runnable = λ q apart. omega arith;
  active = λ q apart. times-drop q ps.stack;
}

module _ (c : Config) (p : ℕ) (rest : List ℕ) (top : c.processes.stack ≡ p ∷ rest) (fits : AllFit c.processes) where
  top_active : 0 < times p c.processes.stack
  top_active = let a = ap (times p) top ∙ times-here p rest in omega (arith, a)

  made_top : (o : Option Instance) → instance_at c p ≡ o → (i : Instance) × (instance_at c p ≡ Some i)
  made_top None at = let none = subst (λ o. Fits o (times p c.processes.runnable) (times p c.processes.stack)) at (fits p) in let active = top_active in absurd (omega (arith, none, active))
  made_top (Some i) at = (i, at)

  stands_top : (i : Instance) → instance_at c p ≡ Some i → Stands i (times p c.processes.runnable) (times p c.processes.stack)
  stands_top i at = stands-at c.processes p i at fits

  pub top-lives : (i : Instance) → instance_at c p ≡ Some i → i.ended ≡ false
  top-lives i at = let active = top_active in (stands_top i at).lives (omega (arith, active))

  pub top-free : (i : Instance) → instance_at c p ≡ Some i → IsFree i
  top-free i at = let active = top_active in (stands_top i at).free (omega (arith, active))

  -- it stands nowhere else
  top_off : times p c.processes.runnable + times p (drop 1 c.processes.stack) ≡ 0
  top_off =
      let i = made_top (instance_at c p) refl in
      let once = (stands_top i.0 i.1).once in
      let a = ap (times p) top ∙ times-here p rest in
      let b = ap (λ s. times p (drop 1 s)) top in
      omega (arith, once, a, b)

  pub top_residual-fits : (x : Residual) → AllFit (with_residual c p x).processes
  top_residual-fits x = live_residual c p x top-lives fits

  -- it leaves the stack
  top_leaves : (f : Instance → Instance) → ((i : Instance) → instance_at c p ≡ Some i → (r s : ℕ) → r + s ≡ 0 → Stands (f i) r s) → AllFit (leaves_stack (change_instance c p f)).processes
  top_leaves f becomes =
      let i = made_top (instance_at c p) refl in
      moved-to p c.processes _ (f i.0) (left_move c.processes p f) (change-here c.processes.instances p f i.0 i.1) fits
      (becomes i.0 i.1 (times p c.processes.runnable) (times p (drop 1 c.processes.stack)) top_off)

  top_waits : (w : Wait) (d : Deadline) → AllFit (leaves_stack (change_instance c p (λ i. record i { wait = w; deadline = d }))).processes
  top_waits w d = top_leaves _ (λ i at r s none. stands-nowhere (record i { wait = w; deadline = d }) r s none (top-lives i at) (top-free i at).kept)

  top_idles : (w : Wait) (d : Deadline) → AllFit (made c (move.idling p w d)).processes
  top_idles w d = top_leaves _ (λ i at r s none. stands-nowhere _ r s none (top-lives i at) (top-free i at).kept)

  top_ends : AllFit (made c (move.ending p)).processes
  top_ends = top_leaves ended_instance (λ i at r s none. stands-over (ended_instance i) r s none (record { wait = refl; deadline = refl; kept = refl }) refl)

  -- a suspended one is kept
  top_stays : (i : Instance) → instance_at c p ≡ Some i → i.suspended ≡ true → AllFit (leaves_stack (with_kept c p)).processes
  top_stays i at is =
      top_leaves (λ j. record j { kept = true })
      (λ j there r s none. stands-kept (record j { kept = true }) r s none (top-lives j there) (ap (λ (k : Instance). k.suspended) (same_Some j i (sym there ∙ at)) ∙ is) (top-free j there).wait (top-free j there).deadline)

  pub begins-fits : (f : Instance → Instance) → ((i : Instance) → (f i).wait ≡ i.wait) → ((i : Instance) → (f i).deadline ≡ i.deadline) → ((i : Instance) → (f i).kept ≡ i.kept) → ((i : Instance) → (f i).suspended ≡ i.suspended) → ((i : Instance) → (f i).ended ≡ i.ended)
      → AllFit (change_instance c p f).processes
  begins-fits f wait deadline kept suspended ended =
      alike-fits c.processes p f (λ j at. record { wait = wait j; deadline = deadline j; kept = kept j; suspended = suspended j; ended = ended j; left = never j.ended (top-lives j at) }) fits

-- ---- one that lives, wherever it stands

module _ (c : Config) (q : ℕ) (i : Instance) (at : instance_at c q ≡ Some i) (lives : i.ended ≡ false) (fits : AllFit c.processes) where
  here : Stands i (times q c.processes.runnable) (times q c.processes.stack)
  here = stands-at c.processes q i at fits

  live_here : (j : Instance) → instance_at c q ≡ Some j → j.ended ≡ false
  live_here j there = ap (λ (k : Instance). k.ended) (same_Some j i (sym there ∙ at)) ∙ lives

  suspended_here : times q c.processes.runnable ≡ 0 → AllFit (with_suspended c q).processes
  suspended_here off =
      moved-to q c.processes _ (record i { suspended = true }) (changed-move c.processes q (λ j. record j { suspended = true })) (change-here c.processes.instances q _ i at) fits
      (record {
        once = here.once;
        free = λ n. let f = here.free n in record { wait = f.wait; deadline = f.deadline; kept = f.kept };
        lives = here.lives;
        over = never i.ended lives;
        left = never i.ended lives;
        kept = λ e. refl;
        no_wait = here.no_wait;
        no_time = here.no_time;
        suspended = λ e. off;
      })

  cut_move : (f g : Instance → Instance) → Moved q c.processes (record { runnable = without c.processes.runnable q; stack = c.processes.stack; instances = change (change c.processes.instances q f) q g; parents = c.processes.parents })
  cut_move f g = record {
    others = λ p apart. change-other (change c.processes.instances q f) q p g apart ∙ change-other c.processes.instances q p f apart;
    runnable = λ p apart. let same = times-cut_other q p c.processes.runnable apart in omega (arith, same);
    active = λ p apart. omega arith;
  }

  suspended_runnable : holds c.processes.runnable q ≡ true → AllFit (made c (move.suspending_runnable q)).processes
  suspended_runnable is =
      let n = times-holds q c.processes.runnable is in
      let cut = times-cut_here q c.processes.runnable in
      let once = here.once in
      let free = here.free (omega (arith, n)) in
      moved-to q c.processes _ (record i { suspended = true; kept = true }) (cut_move (λ j. record j { suspended = true }) (λ j. record j { kept = true }))
      (change-here (change c.processes.instances q (λ j. record j { suspended = true })) q _ (record i { suspended = true }) (change-here c.processes.instances q _ i at)) fits
      (stands-kept (record i { suspended = true; kept = true }) (times q (without c.processes.runnable q)) (times q c.processes.stack) (omega (arith, n, cut, once)) lives refl free.wait free.deadline)

  suspended_top : times q c.processes.runnable ≡ 0 → is_top c q ≡ true → AllFit (made c (move.yielding q)).processes
  suspended_top off is =
      let t = top-is c q is in
      top_stays (with_suspended c q) q t.0 t.1 (suspended_here off) (record i { suspended = true }) (change-here c.processes.instances q (λ k. record k { suspended = true }) i at) refl

  last_move : (f : Instance → Instance) → Moved q c.processes (record { runnable = c.processes.runnable ++ q ∷ []; stack = c.processes.stack; instances = change c.processes.instances q f; parents = c.processes.parents })
  last_move f = record {
    others = λ p apart. change-other c.processes.instances q p f apart;
    runnable = λ p apart. let same = times-last_other q p c.processes.runnable apart in omega (arith, same);
    active = λ p apart. omega arith;
  }

  resumed_kept : i.kept ≡ true → AllFit (made c (move.resuming_kept q)).processes
  resumed_kept is =
      let none = nowhere-if (times q c.processes.runnable + times q c.processes.stack) (λ n. never i.kept (here.free n).kept is) in
      let last = times-last_here q c.processes.runnable in
      moved-to q c.processes _ (record i { suspended = false; kept = false }) (last_move (λ j. record j { suspended = false; kept = false })) (change-here c.processes.instances q _ i at) fits
      (stands-free (record i { suspended = false; kept = false }) (times q (c.processes.runnable ++ q ∷ [])) (times q c.processes.stack) (omega (arith, none, last))
      (record { wait = here.no_wait is; deadline = here.no_time is; kept = refl }) lives (never false refl))

  resumed : AllFit (with_resumed c q).processes
  resumed =
      moved-to q c.processes _ (record i { suspended = false; kept = false }) (changed-move c.processes q (λ j. record j { suspended = false; kept = false })) (change-here c.processes.instances q _ i at) fits
      (record {
        once = here.once;
        free = λ n. let f = here.free n in record { wait = f.wait; deadline = f.deadline; kept = refl };
        lives = here.lives;
        over = never i.ended lives;
        left = never i.ended lives;
        kept = never false refl;
        no_wait = never false refl;
        no_time = never false refl;
        suspended = never false refl;
      })

  -- ---- a push

  push_move : (f : Instance → Instance) → Moved q c.processes (record { runnable = without c.processes.runnable q; stack = q ∷ c.processes.stack; instances = change c.processes.instances q f; parents = c.processes.parents })
  push_move f = record {
    others = λ p apart. change-other c.processes.instances q p f apart;
    runnable = λ p apart. let same = times-cut_other q p c.processes.runnable apart in omega (arith, same);
    active = λ p apart. let same = times-other p q c.processes.stack (λ e. apart (sym e)) in omega (arith, same);
  }

  pushed_fits : times q c.processes.stack ≡ 0 → AllFit (pushed c q).processes
  pushed_fits off =
      let cut = times-cut_here q c.processes.runnable in
      let push = times-here q c.processes.stack in
      moved-to q c.processes _ (record (freed i) { kept = false; trigger = None }) (push_move (λ j. record (freed j) { kept = false; trigger = None })) (change-here c.processes.instances q _ i at) fits
      (stands-free (record (freed i) { kept = false; trigger = None }) (times q (without c.processes.runnable q)) (times q (q ∷ c.processes.stack)) (omega (arith, cut, push, off))
      (record { wait = refl; deadline = refl; kept = refl }) lives (λ e. cut))

module _ (c : Config) (q : ℕ) (i : Instance) (at : instance_at c q ≡ Some i) (lives : i.ended ≡ false) (fits : AllFit c.processes) (below : is_below_top c q ≡ false) where
  -- with another residual, and on top
  pushed_with : (x : Residual) → is_top c q ≡ false → AllFit (pushed (with_residual c q x) q).processes
  pushed_with x top =
      pushed_fits (with_residual c q x) q (record i { residual = x }) (change-here c.processes.instances q _ i at) lives (live_residual c q x (live_here c q i at lives fits) fits) (off-stack c q top below)

  unwound_if : (b : Bool) (x : Residual) → is_top c q ≡ b → AllFit (cond b (with_residual c q x) (pushed (with_residual c q x) q)).processes
  unwound_if true x top = live_residual c q x (live_here c q i at lives fits) fits
  unwound_if false x top = pushed_with x top

-- ---- a new instance

added_move : (ps : Processes) (i : Instance) (runnable : List ℕ) (parents : List (Option ℕ)) → ((p : ℕ) → p ≢ length ps.instances → times p runnable ≡ times p ps.runnable)
    → Moved (length ps.instances) ps (record { runnable = runnable; stack = ps.stack; instances = ps.instances ++ i ∷ []; parents = parents })
added_move ps i runnable parents same = record {
  others = λ p apart. last-other ps.instances i p apart;
  runnable = λ p apart. let e = same p apart in omega (arith, e);
  active = λ p apart. omega arith;
}

-- it stood nowhere
new_place : (ps : Processes) → AllFit ps → times (length ps.instances) ps.runnable + times (length ps.instances) ps.stack ≡ 0
new_place ps fits = subst (λ o. Fits o (times (length ps.instances) ps.runnable) (times (length ps.instances) ps.stack)) (past-end ps.instances) (fits (length ps.instances))

spawned : (c : Config) (h : Here) (x : SpawnTerm) (args : List Value) (b : Bool) → x.dont_initialize ≡ b → AllFit c.processes → AllFit (runnable_unless b (length c.processes.instances) (added c (new_instance c h x args))).processes
spawned c h x args true is fits =
    moved-to (length c.processes.instances) c.processes _ (new_instance c h x args) (added_move c.processes (new_instance c h x args) c.processes.runnable (c.processes.parents ++ slice_get c.processes.stack 0 ∷ []) (λ p apart. refl)) (last-here c.processes.instances (new_instance c h x args)) fits
    (stands-nowhere (new_instance c h x args) _ _ (new_place c.processes fits) refl refl)
spawned c h x args false is fits =
    let q = length c.processes.instances in
    let none = new_place c.processes fits in
    let last = times-last_here q c.processes.runnable in
    moved-to q c.processes _ (new_instance c h x args) (added_move c.processes (new_instance c h x args) (c.processes.runnable ++ q ∷ []) (c.processes.parents ++ slice_get c.processes.stack 0 ∷ []) (λ p apart. times-last_other q p c.processes.runnable apart)) (last-here c.processes.instances (new_instance c h x args)) fits
    (stands-free (new_instance c h x args) (times q (c.processes.runnable ++ q ∷ [])) (times q c.processes.stack) (omega (arith, none, last))
    (record { wait = ap (λ b. cond b waits_statically waits_for_nothing) is; deadline = refl; kept = refl }) refl (never false refl))

-- ---- a taking

alone_move : (c : Config) (p : ℕ) → Moved p c.processes (turn_taken c p).processes
alone_move c p = record {
  others = λ q apart. refl;
  runnable = λ q apart. let same = times-cut_other p q c.processes.runnable apart in omega (arith, same);
  active = λ q apart. let none = times-other q p [] (λ same. apart (sym same)) in omega (arith, none);
}

pub alone-fits : (c : Config) (p : ℕ) (i : Instance) → instance_at c p ≡ Some i → holds c.processes.runnable p ≡ true → AllFit c.processes → AllFit (turn_taken c p).processes
alone-fits c p i at is fits =
    let h = stands-at c.processes p i at fits in
    let n = times-holds p c.processes.runnable is in
    let cut = times-cut_here p c.processes.runnable in
    let one = times-here p [] in
    moved-to p c.processes _ i (alone_move c p) at fits
    (stands-free i (times p (without c.processes.runnable p)) (times p (p ∷ [])) (omega (arith, cut, one)) (h.free (omega (arith, n))) (h.lives (omega (arith, n))) (λ e. cut))

-- ---- each move

pub each-fits : (w : Option ℕ) → EachKeeps w (λ (c : Config). AllFit c.processes)
each-fits w c (move.passing p r) (t, may) h = top_residual-fits c p t.rest t.top h (put r skip)
each-fits w c (move.placing p r new) (s, x, t, g) h = top_residual-fits c p t.turn.rest t.turn.top h (put r new)
each-fits w c (move.entering p r b u) (s, t) h = top_residual-fits c p t.turn.rest t.turn.top h (put r (guard (block (arena c) b) c.trace.next_guard u))
each-fits w c (move.taking_off p r) (s, q, t, next) h = top_residual-fits c p t.rest t.top h (taken_off r)
each-fits w c (move.returning p r v) (s, e, t) h = top_residual-fits c p t.turn.rest t.turn.top h (returned v r)
each-fits w c (move.beginning p f args) (t, i, at, is, same, too) h = begins-fits c p t.rest t.top h _ (λ i. refl) (λ i. refl) (λ i. refl) (λ i. refl) (λ i. refl)
each-fits w c (move.ending p) (r, t, over) h = top_ends c p t.rest t.top h
each-fits w c (move.idling p v d) (r, t, over) h = top_idles c p t.rest t.top h v d
each-fits w c (move.resetting p) may h = alike-fits c.processes p _ (λ j at. record { wait = refl; deadline = refl; kept = refl; suspended = refl; ended = refl; left = λ e over. refl }) h
each-fits w c (move.waiting p r v d) (s, x, t) h = top_waits (passes c p r) p t.turn.rest t.turn.top (top_residual-fits c p t.turn.rest t.turn.top h (put r skip)) v d
each-fits w c (move.blocking p r e) (s, x, t, may) h = top_waits (with_residual c p r) p t.turn.rest t.turn.top (top_residual-fits c p t.turn.rest t.turn.top h r) _ _
each-fits w c (move.triggering p v) may h = alike-fits c.processes p _ (λ j at. record { wait = refl; deadline = refl; kept = refl; suspended = refl; ended = refl; left = λ e over. over }) h
each-fits w c (move.spawning p r k x args) (s, t, is) h = spawned (passes c p r) k x args x.dont_initialize refl (top_residual-fits c p t.turn.rest t.turn.top h (put r skip))
each-fits w c (move.throwing p r e) (t, i, at, is, caught, how) h = left_fits (left_by_raise r e) _ (top_residual-fits c p t.rest t.top h (raise (arena c) r e goal_of.Thrown))
each-fits w c (move.injecting q i e) (p, t, live, off, below, caught) h = left_fits (left_by_raise i.residual e) _ (pushed_with c q i live.at live.lives h below (raise (arena c) i.residual e goal_of.Injected) off)
each-fits w c (move.unwinding q i k) (p, t, live, below, none, outer) h = left_fits (left_by_unw i.residual) _ (unwound_if c q i live.at live.lives h below (is_top c q) (goal (unw i.residual) k) refl)
each-fits w c (move.suspending_runnable q) (p, t, i, live, is) h = suspended_runnable c q i live.at live.lives h is
each-fits w c (move.yielding q) (p, t, i, live, off, is) h = suspended_top c q i live.at live.lives h (times-lacks q c.processes.runnable off) (and-left (is_top c q) _ is)
each-fits w c (move.suspending q) (p, t, i, live, off) h = suspended_here c q i live.at live.lives h (times-lacks q c.processes.runnable off)
each-fits w c (move.resuming_kept q) (p, t, i, live, is) h = resumed_kept c q i live.at live.lives h is
each-fits w c (move.resuming q) (p, t, i, live, is) h = resumed c q i live.at live.lives h
each-fits w c (move.disabling q flag) may h = alike-fits c.processes q _ (λ j at. record { wait = refl; deadline = refl; kept = refl; suspended = refl; ended = refl; left = λ e over. over }) h
each-fits w c (move.staying_reset p) (t, i, at, bare, is) h = top_stays c p t.rest t.top h i at is
each-fits w c (move.staying_thrown p r) (t, next, is) h =
    top_stays (passes c p r) p t.rest t.top (top_residual-fits c p t.rest t.top h (put r skip)) (record t.instance { residual = put r skip }) (change-here c.processes.instances p _ t.instance t.at) is
each-fits w c (move.joining p) (i, k, is) h = woken-fits c p i k.at k.lives k.inactive h false is
each-fits w c (move.keeping p) (i, k, is) h = woken-fits c p i k.at k.lives k.inactive h true is
each-fits w c (move.striking p es) (i, all, at, is) h = struck-fits c p es i all at is h
each-fits w c move.falling_due may h = timeless-fits is_zero_timeout c.processes h
each-fits w c (move.falling_due_at t) may h = timeless-fits (is_due_at t) c.processes h
each-fits w c (move.setting_local p n v) may h =
    alike-fits c.processes p _ (λ i at. record { wait = refl; deadline = refl; kept = refl; suspended = refl; ended = refl; left = λ e over. ap (in_innermost (with_local n v)) over }) h
each-fits w c (move.calling p r s f args via e) (x, t, hop, handler, entry, unbroken) h = top_residual-fits c p t.turn.rest t.turn.top h (put r (entered (arena c) f args (Some s) (Some via)))
each-fits w c (move.answering p r via e) (x, t, next, over, entry, unbroken) h = top_residual-fits c p t.rest t.top h (put r skip)
each-fits w c other may h = h
