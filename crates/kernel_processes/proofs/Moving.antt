-- Each move of one instance, put together.
use Rattle.std.proofs.Common.{◌≡◌, ◌<◌, ℕ, Bool, true, false, [], ◌∷◌, ◌++◌, Option, Some, None, refl, sym, ap, ◌∙◌, true≢false, subst}
use Rattle.std.specs.Prelude.{is_some, length, vec_capacity}
use Rattle.std.specs.Global.{Vec}
use Rattle.std.specs.FinMap as map
use Rattle.std.specs.FinSet as set
use Rattle.instance_table.specs.declared.instances.Instance.{Instance as Entry}
use Rattle.sim_model.specs.Configuration.{Instance, waits_statically}
use Rattle.sim_model.specs.Waits.{freed}
use Rattle.kernel_processes.specs.InstanceViews.{Seen, seen, is_on}
use Rattle.kernel_processes.specs.Sound.{IsFree, IsKept, IsBusy, IsSound, time_of, is_zero}
use Rattle.kernel_processes.specs.Moves.{with_entry, listed_as, sensitive_of, is_kept, HasNoTimeOut, Changes, MovesOne}
use Rattle.kernel_processes.specs.declared.parts.Process.{Process}
use Rattle.kernel_processes.specs.declared.parts.Schedule.{Schedule}
use Rattle.kernel_processes.specs.declared.parts.Trigger.{Trigger}
use Rattle.kernel_processes.specs.declared.parts.Wait.TheVariants as how
use Rattle.instance_table.specs.declared.instances.Waiting.TheVariants as waiting
use Rattle.instance_table.specs.declared.instances.Deadline.TheVariants as due
use Rattle.kernel_processes.specs.Moved.{IsFresh, waits_as, rests_as, started_as, kept_as, pushed_as, suspended_as, resumed_as, disabled_as, waiting_seen, untimed_free, is_suspended, same_stack}
use Rattle.kernel_processes.proofs.Single.{Does, IsBusyAt, at_entry, kept_of, does_there, busy_there, waits_here, rests_here, pushes_here, initializes_here, takes_here, begins_here, keeps_here, suspends_kept, suspends_here, resumes_kept, resumes_here, disables_here, joins_here, statics_here, begins_busy, suspends_busy, resumes_busy, disables_busy, pushes_busy, takes_busy}
use Rattle.kernel_processes.proofs.Sounding.{sound_with_top, on_top}
use Rattle.kernel_processes.proofs.Rousing.{has_places}
use Rattle.kernel_processes.specs.Moved.{LeavesTop, leaves_top, joins_top}
use Rattle.kernel_processes.proofs.Finish.{moved, still_busy, still_off, after_leaving, before_joining, entry_there}
use Rattle.kernel_processes.proofs.Room.{stack_has_room}

-- what a schedule has to be after a move that leaves the stack alone
pub record Result {B : Type 0} (p : ℕ) (g : Instance → Instance) (runs : Bool) (s t : Schedule B) : Type 0 where
  pub moves : MovesOne p g runs same_stack s t
  pub sound : IsSound t

module _ {B : Type 0} (s t : Schedule B) (p : ℕ) (sound : IsSound s) (lives : map.contains_key s.table.live p ≡ true) where
  busy_at : is_on s.stack.items p ≡ true → IsBusyAt (seen s p)
  busy_at on z at = sound.busy p z on at

  -- of one that is not active
  off_result : (f : Seen B → Seen B) (g : Instance → Instance) (runs : Bool) → is_on s.stack.items p ≡ false → Changes p f s t
      → ((z : Entry (Process B)) → (seen s p).entry ≡ Some z → IsKept z (seen s p) → Does f g runs (record (seen s p) { entry = Some z })) → Result p g runs s t
  off_result f g runs off ch here =
      let does = does_there f g runs (seen s p) (sound.each p) lives here in
      record { moves = moved s t p f g runs ch does; sound = still_off s t p f g runs ch does sound off }

  -- of one that may be active
  any_result : (f : Seen B → Seen B) (g : Instance → Instance) (runs : Bool) → Changes p f s t
      → ((z : Entry (Process B)) → (seen s p).entry ≡ Some z → IsKept z (seen s p) → Does f g runs (record (seen s p) { entry = Some z }))
      → ((z : Entry (Process B)) → IsKept z (seen s p) → IsBusyAt (record (seen s p) { entry = Some z }) → IsBusyAt (f (record (seen s p) { entry = Some z }))) → Result p g runs s t
  any_result f g runs ch here busy =
      let does = does_there f g runs (seen s p) (sound.each p) lives here in
      record { moves = moved s t p f g runs ch does; sound = by (is_on s.stack.items p) refl does }
    where
      by : (b : Bool) → is_on s.stack.items p ≡ b → Does f g runs (seen s p) → IsSound t
      by true on does = still_busy s t p f g runs ch does sound (busy_there f (seen s p) (sound.each p) lives busy (busy_at on))
      by false off does = still_off s t p f g runs ch does sound off

  -- ---- of one that is not active

  unkept_at : (z : Entry (Process B)) → (seen s p).entry ≡ Some z → is_kept (map.get s.table.live p) ≡ false → z.kept ≡ false
  unkept_at z at off = ap is_kept (sym at) ∙ off

  pub waits : (u : Trigger) → is_on s.stack.items p ≡ false → set.contains s.ready.members p ≡ false → is_kept (map.get s.table.live p) ≡ false → Changes p (waiting_seen u) s t → Result p (waits_as u) false s t
  waits u off unready unkept ch = off_result (waiting_seen u) (waits_as u) false off ch (λ z at k. waits_here (seen s p) z k u unready (unkept_at z at unkept))

  pub rests : (u : Trigger) → is_on s.stack.items p ≡ false → set.contains s.ready.members p ≡ false → is_kept (map.get s.table.live p) ≡ false
      → Changes p (λ v. with_entry (λ e. record e { started = false }) (waiting_seen u v)) s t → Result p (rests_as u) false s t
  rests u off unready unkept ch = off_result (λ v. with_entry (λ e. record e { started = false }) (waiting_seen u v)) (rests_as u) false off ch (λ z at k. rests_here (seen s p) z k u unready (unkept_at z at unkept))

  pub pushes : is_on s.stack.items p ≡ false → Changes p (λ v. record (untimed_free v) { ready = false }) s t → Result p pushed_as false s t
  pushes off ch = off_result (λ v. record (untimed_free v) { ready = false }) pushed_as false off ch (λ z at k. pushes_here (seen s p) z k)

  pub initializes : is_on s.stack.items p ≡ false → is_suspended (map.get s.table.live p) ≡ false → Changes p (λ v. record (untimed_free v) { ready = true }) s t → Result p freed true s t
  initializes off goes ch = off_result (λ v. record (untimed_free v) { ready = true }) freed true off ch (λ z at k. initializes_here (seen s p) z k (ap is_suspended (sym at) ∙ goes))

  pub takes : is_on s.stack.items p ≡ false → Changes p (λ v. record v { ready = false }) s t → Result p (λ i. i) false s t
  takes off ch = off_result (λ v. record v { ready = false }) (λ i. i) false off ch (λ z at k. takes_here (seen s p) z k)

  pub keeps : is_on s.stack.items p ≡ false → ((z : Entry (Process B)) → (seen s p).entry ≡ Some z → IsFree z) → set.contains s.ready.members p ≡ false → is_suspended (map.get s.table.live p) ≡ true
      → Changes p (with_entry (λ e. record e { kept = true })) s t → Result p kept_as false s t
  keeps off free unready held ch = off_result (with_entry (λ e. record e { kept = true })) kept_as false off ch (λ z at k. keeps_here (seen s p) z k (free z at) unready (ap is_suspended (sym at) ∙ held))

  off_runs : set.contains s.ready.members p ≡ true → (b : Bool) → is_on s.stack.items p ≡ b → is_on s.stack.items p ≡ false
  off_runs runs true on = by (map.get s.table.live p) refl lives
    where
      by : (o : Option (Entry (Process B))) → map.get s.table.live p ≡ o → is_some o ≡ true → is_on s.stack.items p ≡ false
      by None none is = absurd (true≢false (sym is))
      by (Some z) some is = absurd (true≢false (sym runs ∙ (sound.busy p z on some).ready))
  off_runs runs false off = off

  -- what is runnable is not active
  pub runs_off : set.contains s.ready.members p ≡ true → is_on s.stack.items p ≡ false
  runs_off runs = off_runs runs (is_on s.stack.items p) refl

  pub suspends_one_that_runs : set.contains s.ready.members p ≡ true
      → Changes p (λ v. with_entry (λ e. record e { kept = true }) (with_entry (λ e. record e { suspended = true }) (record v { ready = false }))) s t → Result p (suspended_as true) false s t
  suspends_one_that_runs runs ch = off_result (λ v. with_entry (λ e. record e { kept = true }) (with_entry (λ e. record e { suspended = true }) (record v { ready = false }))) (suspended_as true) false (runs_off runs) ch
      (λ z at k. suspends_kept (seen s p) z k runs)

  off_kept : is_kept (map.get s.table.live p) ≡ true → (b : Bool) → is_on s.stack.items p ≡ b → is_on s.stack.items p ≡ false
  off_kept was true on = by (map.get s.table.live p) refl lives
    where
      by : (o : Option (Entry (Process B))) → map.get s.table.live p ≡ o → is_some o ≡ true → is_on s.stack.items p ≡ false
      by None none is = absurd (true≢false (sym is))
      by (Some z) some is = absurd (true≢false (sym was ∙ ap is_kept some ∙ (sound.busy p z on some).kept))
  off_kept was false off = off

  pub resumes_one_kept : is_kept (map.get s.table.live p) ≡ true → Changes p (λ v. record (with_entry (λ e. record e { suspended = false; kept = false }) v) { ready = true }) s t → Result p resumed_as true s t
  resumes_one_kept was ch = off_result (λ v. record (with_entry (λ e. record e { suspended = false; kept = false }) v) { ready = true }) resumed_as true (off_kept was (is_on s.stack.items p) refl) ch
      (λ z at k. resumes_kept (seen s p) z k (ap is_kept (sym at) ∙ was))

  -- a new one
  module _ (fresh : IsFresh p s) where
    pub joins_new : Changes p (λ v. record v { ready = true }) s t → Result p (λ i. i) true s t
    joins_new ch = off_result (λ v. record v { ready = true }) (λ i. i) true fresh.off ch (λ z at k. joins_here (seen s p) z k (fresh.free z at) (unkept_at z at fresh.unkept) (ap is_suspended (sym at) ∙ fresh.goes))

    pub statics_new : Changes p (λ v. with_entry (λ e. record e { wait = waiting.Static; deadline = due.None }) (record v { wait = listed_as how.Static (sensitive_of v.entry) })) s t → Result p (λ i. record i { wait = waits_statically }) false s t
    statics_new ch = off_result (λ v. with_entry (λ e. record e { wait = waiting.Static; deadline = due.None }) (record v { wait = listed_as how.Static (sensitive_of v.entry) })) (λ i. record i { wait = waits_statically }) false fresh.off ch
        (λ z at k. statics_here (seen s p) z k (fresh.free z at) (unkept_at z at fresh.unkept) fresh.unready)

  -- ---- of one that may be active

  pub begins : (on : Bool) → Changes p (with_entry (λ e. record e { started = on })) s t → Result p (started_as on) (set.contains s.ready.members p) s t
  begins on ch = any_result (with_entry (λ e. record e { started = on })) (started_as on) (set.contains s.ready.members p) ch (λ z at k. begins_here (seen s p) z k on) (λ z k. begins_busy (seen s p) z k on)

  pub suspends : Changes p (λ v. with_entry (λ e. record e { suspended = true }) (record v { ready = false })) s t → Result p (suspended_as false) false s t
  suspends ch = any_result (λ v. with_entry (λ e. record e { suspended = true }) (record v { ready = false })) (suspended_as false) false ch (λ z at k. suspends_here (seen s p) z k) (λ z k. suspends_busy (seen s p) z k)

  pub resumes : Changes p (with_entry (λ e. record e { suspended = false; kept = false })) s t → Result p resumed_as (set.contains s.ready.members p) s t
  resumes ch = any_result (with_entry (λ e. record e { suspended = false; kept = false })) resumed_as (set.contains s.ready.members p) ch (λ z at k. resumes_here (seen s p) z k) (λ z k. resumes_busy (seen s p) z k)

  pub disables : (on : Bool) → Changes p (λ v. with_entry (λ e. record e { disabled = on }) (record v { muted = on })) s t → Result p (disabled_as on) (set.contains s.ready.members p) s t
  disables on ch = any_result (λ v. with_entry (λ e. record e { disabled = on }) (record v { muted = on })) (disabled_as on) (set.contains s.ready.members p) ch (λ z at k. disables_here (seen s p) z k on) (λ z k. disables_busy (seen s p) z k on)

-- ---- on top of the stack

pub record TopResult {B : Type 0} (p : ℕ) (g : Instance → Instance) (s t : Schedule B) : Type 0 where
  pub moves : MovesOne p g false (joins_top p) s t
  pub sound : IsSound t

module _ {B : Type 0} (s u : Schedule B) (p : ℕ) (f : Seen B → Seen B) (g : Instance → Instance) (ch : Changes p f s u) (r : Result p g false s u)
    (busy : IsBusyAt (f (seen s p))) (there : is_some (f (seen s p)).entry ≡ true) (off : is_on s.stack.items p ≡ false) where
  lives_now : map.contains_key u.table.live p ≡ true
  lives_now = ap (λ x. is_some x.entry) ch.here ∙ there

  off_now : is_on u.stack.items p ≡ false
  off_now = ap (λ w. is_on w.items p) ch.stack ∙ off

  pub room_on_top : length u.stack.items < vec_capacity u.stack
  room_on_top = stack_has_room u r.sound p lives_now off_now

  pub tops : (v : Vec ℕ) → v.items ≡ u.stack.items ++ p ∷ [] → vec_capacity v ≡ vec_capacity u.stack → TopResult p g s (record u { stack = v })
  tops v top capacity = record {
    moves = before_joining s u p g false v r.moves top;
    sound = sound_with_top u r.sound p v top capacity lives_now off_now (λ x at. subst (IsBusy x) (sym ch.here) (busy x (ap (λ w. w.entry) (sym ch.here) ∙ at)));
  }

module _ {B : Type 0} (s u : Schedule B) (p : ℕ) (sound : IsSound s) where
  -- a target is put on top
  module _ (lives : map.contains_key s.table.live p ≡ true) (off : is_on s.stack.items p ≡ false) (ch : Changes p (λ v. record (untimed_free v) { ready = false }) s u) where
    busy_pushed : IsBusyAt (record (untimed_free (seen s p)) { ready = false })
    busy_pushed = let e = entry_there (seen s p).entry lives in
        at_entry (λ v. IsBusyAt (record (untimed_free v) { ready = false })) (seen s p) e.0 e.1 (pushes_busy (seen s p) e.0 (kept_of (seen s p) e.0 e.1 (sound.each p)))

    there_pushed : is_some (record (untimed_free (seen s p)) { ready = false }).entry ≡ true
    there_pushed = let e = entry_there (seen s p).entry lives in at_entry (λ v. is_some (record (untimed_free v) { ready = false }).entry ≡ true) (seen s p) e.0 e.1 refl

    pub push_room : length u.stack.items < vec_capacity u.stack
    push_room = room_on_top s u p (λ v. record (untimed_free v) { ready = false }) pushed_as ch (pushes s u p sound lives off ch) busy_pushed there_pushed off

    pub push_tops : (v : Vec ℕ) → v.items ≡ u.stack.items ++ p ∷ [] → vec_capacity v ≡ vec_capacity u.stack → TopResult p pushed_as s (record u { stack = v })
    push_tops v top capacity = tops s u p (λ w. record (untimed_free w) { ready = false }) pushed_as ch (pushes s u p sound lives off ch) busy_pushed there_pushed off v top capacity

  -- a runnable one is taken
  module _ (runs : set.contains s.ready.members p ≡ true) (ch : Changes p (λ v. record v { ready = false }) s u) where
    lives_that_runs : map.contains_key s.table.live p ≡ true
    lives_that_runs = (has_places s sound).live p runs

    off_that_runs : is_on s.stack.items p ≡ false
    off_that_runs = runs_off s u p sound lives_that_runs runs

    busy_taken : IsBusyAt (record (seen s p) { ready = false })
    busy_taken = let e = entry_there (seen s p).entry lives_that_runs in
        at_entry (λ v. IsBusyAt (record v { ready = false })) (seen s p) e.0 e.1 (takes_busy (seen s p) e.0 (kept_of (seen s p) e.0 e.1 (sound.each p)) runs)

    taken : Result p (λ i. i) false s u
    taken = takes s u p sound lives_that_runs off_that_runs ch

    pub take_room : length u.stack.items < vec_capacity u.stack
    take_room = room_on_top s u p (λ v. record v { ready = false }) (λ i. i) ch taken busy_taken lives_that_runs off_that_runs

    pub take_tops : (v : Vec ℕ) → v.items ≡ u.stack.items ++ p ∷ [] → vec_capacity v ≡ vec_capacity u.stack → TopResult p (λ i. i) s (record u { stack = v })
    take_tops v top capacity = tops s u p (λ w. record w { ready = false }) (λ i. i) ch taken busy_taken lives_that_runs off_that_runs v top capacity

-- ---- off the top

pub record OffResult {B : Type 0} (p : ℕ) (g : Instance → Instance) (s t : Schedule B) : Type 0 where
  pub moves : MovesOne p g false (leaves_top p) s t
  pub sound : IsSound t

module _ {B : Type 0} (s u : Schedule B) (p : ℕ) (sound : IsSound s) (left : LeavesTop p s u) where
  same_seen : seen u p ≡ seen s p
  same_seen = ap (λ v. seen v p) left.others

  on_before : is_on s.stack.items p ≡ true
  on_before = ap (λ xs. is_on xs p) left.stack ∙ on_top u.stack.items p

  lives_before : map.contains_key s.table.live p ≡ true
  lives_before = sound.active p on_before

  pub lives_after : map.contains_key u.table.live p ≡ true
  lives_after = ap (λ x. is_some x.entry) same_seen ∙ lives_before

  busy_before : (z : Entry (Process B)) → (seen u p).entry ≡ Some z → IsBusy z (seen s p)
  busy_before z at = sound.busy p z on_before (ap (λ x. x.entry) (sym same_seen) ∙ at)

  pub unready_after : set.contains u.ready.members p ≡ false
  unready_after = let e = entry_there (seen u p).entry lives_after in ap (λ x. x.ready) same_seen ∙ (busy_before e.0 e.1).ready

  pub unkept_after : is_kept (map.get u.table.live p) ≡ false
  unkept_after = let e = entry_there (seen u p).entry lives_after in ap is_kept e.1 ∙ (busy_before e.0 e.1).kept

  -- what was active has no time-out
  pub untimed_after : HasNoTimeOut p u
  untimed_after =
      let e = entry_there (seen u p).entry lives_after in
      let kept = kept_of (seen s p) e.0 (ap (λ x. x.entry) (sym same_seen) ∙ e.1) (sound.each p) in
      let free = (busy_before e.0 e.1).free in
      record {
        time = ap (λ x. x.time) same_seen ∙ kept.time ∙ ap time_of free.deadline;
        zero = ap (λ x. x.zero) same_seen ∙ kept.zero ∙ ap is_zero free.deadline;
      }

  off_result_after : (t : Schedule B) (g : Instance → Instance) → Result p g false u t → OffResult p g s t
  off_result_after t g r = record { moves = after_leaving s u t p g false left r.moves; sound = r.sound }

  module _ (sound_u : IsSound u) (t : Schedule B) where
    pub keeps_top : is_suspended (map.get s.table.live p) ≡ true → Changes p (with_entry (λ e. record e { kept = true })) u t → OffResult p kept_as s t
    keeps_top held ch = off_result_after t kept_as (keeps u t p sound_u lives_after left.off (λ z at. (busy_before z at).free) unready_after (ap (λ x. is_suspended x.entry) same_seen ∙ held) ch)

    pub waits_top : (w : Trigger) → Changes p (waiting_seen w) u t → OffResult p (waits_as w) s t
    waits_top w ch = off_result_after t (waits_as w) (waits u t p sound_u lives_after w left.off unready_after unkept_after ch)

    pub rests_top : (w : Trigger) → Changes p (λ v. with_entry (λ e. record e { started = false }) (waiting_seen w v)) u t → OffResult p (rests_as w) s t
    rests_top w ch = off_result_after t (rests_as w) (rests u t p sound_u lives_after w left.off unready_after unkept_after ch)
