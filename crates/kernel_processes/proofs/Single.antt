-- What a move makes of what is seen of the one instance that moves.
use Rattle.std.proofs.Common.{◌≡◌, Bool, true, false, List, [], ◌∷◌, Option, Some, None, option_map, refl, sym, ap, ◌∙◌, true≢false, subst}
use Rattle.std.specs.Prelude.{is_some, unwrap_or}
use Rattle.wait_lists.specs.EventCore.declared.event.Ev.{Ev}
use Rattle.instance_table.specs.declared.instances.Instance.{Instance as Entry}
use Rattle.instance_table.specs.declared.instances.Waiting.TheVariants as waiting
use Rattle.instance_table.specs.declared.instances.Deadline.TheVariants as due
use Rattle.sim_model.specs.Configuration.{Instance, waits_statically}
use Rattle.sim_model.specs.Waits.{freed}
use Rattle.kernel_processes.specs.InstanceViews.{Seen, as_instance, shown_in, wait_of, deadline_of}
use Rattle.kernel_processes.specs.Sound.{time_of, is_zero, Agrees, IsFree, IsKept, IsBusy, Fits, FitsAs}
use Rattle.kernel_processes.specs.Moves.{with_entry, listed_as, waiting_by, sensitive_of}
use Rattle.kernel_processes.specs.declared.parts.Process.{Process}
use Rattle.kernel_processes.specs.declared.parts.Wait.{Wait}
use Rattle.kernel_processes.specs.declared.parts.Wait.TheVariants as how
use Rattle.kernel_processes.specs.declared.parts.Trigger.{Trigger}
use Rattle.kernel_processes.specs.Moved.{wait_as, waits_as, started_as, rests_as, kept_as, pushed_as, suspended_as, resumed_as, disabled_as, waiting_seen, untimed_free}

-- a wait stands in the lists as it is noted, and is shown as it is
agrees : (w : Wait) (static : List Ev) → Agrees (waiting_by w) static (listed_as w static)
agrees how.Static static = refl
agrees (how.Any []) static = refl
agrees (how.Any (e ∷ es)) static = refl
agrees (how.All []) static = refl
agrees (how.All (e ∷ es)) static = refl

shown_wait : (w : Wait) (static : List Ev) → wait_of (waiting_by w) (listed_as w static) ≡ wait_as w
shown_wait how.Static static = refl
shown_wait (how.Any []) static = refl
shown_wait (how.Any (e ∷ es)) static = refl
shown_wait (how.All []) static = refl
shown_wait (how.All (e ∷ es)) static = refl

module _ {B : Type 0} where
  -- what has to be said of it
  pub record Does (f : Seen B → Seen B) (g : Instance → Instance) (runs : Bool) (x : Seen B) : Type 0 where
    pub fits : Fits (f x)
    pub there : is_some (f x).entry ≡ is_some x.entry
    pub shown : shown_in (f x) ≡ option_map g (shown_in x)
    pub ready : (f x).ready ≡ runs
    pub body : option_map (λ (z : Entry (Process B)). z.body.body) (f x).entry ≡ option_map (λ (z : Entry (Process B)). z.body.body) x.entry

  -- where there is an instance, it may stand there
  pub at_entry : (P : Seen B → Type 0) (x : Seen B) (z : Entry (Process B)) → x.entry ≡ Some z → P (record x { entry = Some z }) → P x
  at_entry P x z at here = subst P (sym (ap (λ o. record x { entry = o }) at)) here

  pub kept_of : (x : Seen B) (z : Entry (Process B)) → x.entry ≡ Some z → Fits x → IsKept z x
  kept_of x z at fits = subst (λ o. FitsAs o x) at fits

  pub does_there : (f : Seen B → Seen B) (g : Instance → Instance) (runs : Bool) (x : Seen B) → Fits x → is_some x.entry ≡ true
      → ((z : Entry (Process B)) → x.entry ≡ Some z → IsKept z x → Does f g runs (record x { entry = Some z })) → Does f g runs x
  does_there f g runs x fits lives here = by x.entry refl lives
    where
      by : (o : Option (Entry (Process B))) → x.entry ≡ o → is_some o ≡ true → Does f g runs x
      by None none is = absurd (true≢false (sym is))
      by (Some z) some is = at_entry (λ v. Does f g runs v) x z some (here z some (kept_of x z some fits))

  -- what was active still may be
  abbrev pub IsBusyAt : Seen B → Type 0
  IsBusyAt x = (z : Entry (Process B)) → x.entry ≡ Some z → IsBusy z x

  pub busy_there : (f : Seen B → Seen B) (x : Seen B) → Fits x → is_some x.entry ≡ true
      → ((z : Entry (Process B)) → IsKept z x → IsBusyAt (record x { entry = Some z }) → IsBusyAt (f (record x { entry = Some z }))) → IsBusyAt x → IsBusyAt (f x)
  busy_there f x fits lives here busy = by x.entry refl lives
    where
      by : (o : Option (Entry (Process B))) → x.entry ≡ o → is_some o ≡ true → IsBusyAt (f x)
      by None none is = absurd (true≢false (sym is))
      by (Some z) some is = at_entry (λ v. IsBusyAt (f v)) x z some (here z (kept_of x z some fits) (subst IsBusyAt (ap (λ o. record x { entry = o }) some) busy))

  module _ (x : Seen B) (z : Entry (Process B)) (k : IsKept z x) where
    abbrev y : Seen B
    y = record x { entry = Some z }

    never : {A : Type 0} {b : Bool} → b ≡ false → b ≡ true → A
    never off is = absurd (true≢false (sym is ∙ off))

    -- what is runnable is not kept
    pub not_kept : x.ready ≡ true → z.kept ≡ false
    not_kept runs = by z.kept refl
      where
        by : (b : Bool) → z.kept ≡ b → z.kept ≡ false
        by true is = never (k.runs runs).1 (k.kept is).1
        by false is = is

    -- it waits
    pub waits_here : (t : Trigger) → x.ready ≡ false → z.kept ≡ false → Does (waiting_seen t) (waits_as t) false y
    waits_here t unready unkept = record {
      fits = record {
        wait = agrees t.wait z.body.sensitive;
        muted = k.muted;
        has_room = k.has_room;
        time = refl;
        zero = refl;
        runs = λ is. never unready is;
        kept = λ is. never unkept is;
      };
      there = refl;
      shown = ap (λ w. Some (record (waits_as t (as_instance z x.wait)) { wait = w })) (shown_wait t.wait z.body.sensitive);
      ready = unready;
      body = refl;
    }

    pub rests_here : (t : Trigger) → x.ready ≡ false → z.kept ≡ false → Does (λ v. with_entry (λ e. record e { started = false }) (waiting_seen t v)) (rests_as t) false y
    rests_here t unready unkept = record {
      fits = record {
        wait = agrees t.wait z.body.sensitive;
        muted = k.muted;
        has_room = k.has_room;
        time = refl;
        zero = refl;
        runs = λ is. never unready is;
        kept = λ is. never unkept is;
      };
      there = refl;
      shown = ap (λ w. Some (record (rests_as t (as_instance z x.wait)) { wait = w })) (shown_wait t.wait z.body.sensitive);
      ready = unready;
      body = refl;
    }

    -- it is put on top
    pub pushes_here : Does (λ v. record (untimed_free v) { ready = false }) pushed_as false y
    pushes_here = record {
      fits = record { wait = refl; muted = k.muted; has_room = k.has_room; time = refl; zero = refl; runs = λ is. never refl is; kept = λ is. never refl is };
      there = refl;
      shown = refl;
      ready = refl;
      body = refl;
    }

    -- initialization makes it runnable
    pub initializes_here : z.suspended ≡ false → Does (λ v. record (untimed_free v) { ready = true }) freed true y
    initializes_here goes = record {
      fits = record { wait = refl; muted = k.muted; has_room = k.has_room; time = refl; zero = refl; runs = λ is. (record { wait = refl; deadline = refl }, goes); kept = λ is. never refl is };
      there = refl;
      shown = ap (λ b. Some (record (freed (as_instance z x.wait)) { kept = b })) (sym (unkept z.kept refl));
      ready = refl;
      body = refl;
    }
      where
        unkept : (b : Bool) → z.kept ≡ b → z.kept ≡ false
        unkept true is = never goes (k.kept is).1
        unkept false is = is

    -- it is taken
    pub takes_here : Does (λ v. record v { ready = false }) (λ i. i) false y
    takes_here = record {
      fits = record { wait = k.wait; muted = k.muted; has_room = k.has_room; time = k.time; zero = k.zero; runs = λ is. never refl is; kept = k.kept };
      there = refl;
      shown = refl;
      ready = refl;
      body = refl;
    }

    -- its body begins
    pub begins_here : (on : Bool) → Does (with_entry (λ e. record e { started = on })) (started_as on) x.ready y
    begins_here on = record {
      fits = record {
        wait = k.wait;
        muted = k.muted;
        has_room = k.has_room;
        time = k.time;
        zero = k.zero;
        runs = λ is. (record { wait = (k.runs is).0.wait; deadline = (k.runs is).0.deadline }, (k.runs is).1);
        kept = λ is. (record { wait = (k.kept is).0.wait; deadline = (k.kept is).0.deadline }, (k.kept is).1);
      };
      there = refl;
      shown = refl;
      ready = refl;
      body = refl;
    }

    -- it is kept
    pub keeps_here : IsFree z → x.ready ≡ false → z.suspended ≡ true → Does (with_entry (λ e. record e { kept = true })) kept_as false y
    keeps_here free unready held = record {
      fits = record {
        wait = k.wait;
        muted = k.muted;
        has_room = k.has_room;
        time = k.time;
        zero = k.zero;
        runs = λ is. never unready is;
        kept = λ is. (record { wait = free.wait; deadline = free.deadline }, held);
      };
      there = refl;
      shown = refl;
      ready = unready;
      body = refl;
    }

    -- it is suspended, and was runnable
    pub suspends_kept : x.ready ≡ true → Does (λ v. with_entry (λ e. record e { kept = true }) (with_entry (λ e. record e { suspended = true }) (record v { ready = false }))) (suspended_as true) false y
    suspends_kept runs = record {
      fits = record {
        wait = k.wait;
        muted = k.muted;
        has_room = k.has_room;
        time = k.time;
        zero = k.zero;
        runs = λ is. never refl is;
        kept = λ is. (record { wait = (k.runs runs).0.wait; deadline = (k.runs runs).0.deadline }, refl);
      };
      there = refl;
      shown = refl;
      ready = refl;
      body = refl;
    }

    -- it is suspended, and was not
    pub suspends_here : Does (λ v. with_entry (λ e. record e { suspended = true }) (record v { ready = false })) (suspended_as false) false y
    suspends_here = record {
      fits = record {
        wait = k.wait;
        muted = k.muted;
        has_room = k.has_room;
        time = k.time;
        zero = k.zero;
        runs = λ is. never refl is;
        kept = λ is. (record { wait = (k.kept is).0.wait; deadline = (k.kept is).0.deadline }, refl);
      };
      there = refl;
      shown = refl;
      ready = refl;
      body = refl;
    }

    -- it is resumed, and was kept
    pub resumes_kept : z.kept ≡ true → Does (λ v. record (with_entry (λ e. record e { suspended = false; kept = false }) v) { ready = true }) resumed_as true y
    resumes_kept was = record {
      fits = record {
        wait = k.wait;
        muted = k.muted;
        has_room = k.has_room;
        time = k.time;
        zero = k.zero;
        runs = λ is. (record { wait = (k.kept was).0.wait; deadline = (k.kept was).0.deadline }, refl);
        kept = λ is. never refl is;
      };
      there = refl;
      shown = refl;
      ready = refl;
      body = refl;
    }

    -- it is resumed, and was not
    pub resumes_here : Does (with_entry (λ e. record e { suspended = false; kept = false })) resumed_as x.ready y
    resumes_here = record {
      fits = record {
        wait = k.wait;
        muted = k.muted;
        has_room = k.has_room;
        time = k.time;
        zero = k.zero;
        runs = λ is. (record { wait = (k.runs is).0.wait; deadline = (k.runs is).0.deadline }, refl);
        kept = λ is. never refl is;
      };
      there = refl;
      shown = refl;
      ready = refl;
      body = refl;
    }

    -- it is disabled or enabled
    pub disables_here : (on : Bool) → Does (λ v. with_entry (λ e. record e { disabled = on }) (record v { muted = on })) (disabled_as on) x.ready y
    disables_here on = record {
      fits = record {
        wait = k.wait;
        muted = refl;
        has_room = k.has_room;
        time = k.time;
        zero = k.zero;
        runs = λ is. (record { wait = (k.runs is).0.wait; deadline = (k.runs is).0.deadline }, (k.runs is).1);
        kept = λ is. (record { wait = (k.kept is).0.wait; deadline = (k.kept is).0.deadline }, (k.kept is).1);
      };
      there = refl;
      shown = refl;
      ready = refl;
      body = refl;
    }

    -- one that is active stays free
    only : (a b : Entry (Process B)) → Some a ≡ Some b → a ≡ b
    only a b same = ap (λ o. unwrap_or o a) same

    pub begins_busy : (on : Bool) → IsBusyAt y → IsBusyAt (with_entry (λ e. record e { started = on }) y)
    begins_busy on busy v is = subst (λ e. IsBusy e (with_entry (λ e. record e { started = on }) y)) (only (record z { started = on }) v is)
        (let b = busy z refl in record { free = record { wait = b.free.wait; deadline = b.free.deadline }; ready = b.ready; kept = b.kept })

    pub suspends_busy : IsBusyAt y → IsBusyAt (with_entry (λ e. record e { suspended = true }) (record y { ready = false }))
    suspends_busy busy v is = subst (λ e. IsBusy e (with_entry (λ e. record e { suspended = true }) (record y { ready = false }))) (only (record z { suspended = true }) v is)
        (let b = busy z refl in record { free = record { wait = b.free.wait; deadline = b.free.deadline }; ready = refl; kept = b.kept })

    pub resumes_busy : IsBusyAt y → IsBusyAt (with_entry (λ e. record e { suspended = false; kept = false }) y)
    resumes_busy busy v is = subst (λ e. IsBusy e (with_entry (λ e. record e { suspended = false; kept = false }) y)) (only (record z { suspended = false; kept = false }) v is)
        (let b = busy z refl in record { free = record { wait = b.free.wait; deadline = b.free.deadline }; ready = b.ready; kept = refl })

    pub disables_busy : (on : Bool) → IsBusyAt y → IsBusyAt (with_entry (λ e. record e { disabled = on }) (record y { muted = on }))
    disables_busy on busy v is = subst (λ e. IsBusy e (with_entry (λ e. record e { disabled = on }) (record y { muted = on }))) (only (record z { disabled = on }) v is)
        (let b = busy z refl in record { free = record { wait = b.free.wait; deadline = b.free.deadline }; ready = b.ready; kept = b.kept })

    pub pushes_busy : IsBusyAt (record (untimed_free y) { ready = false })
    pushes_busy v is = subst (λ e. IsBusy e (record (untimed_free y) { ready = false })) (only (record z { wait = waiting.None; deadline = due.None; kept = false }) v is)
        (record { free = record { wait = refl; deadline = refl }; ready = refl; kept = refl })

    pub takes_busy : x.ready ≡ true → IsBusyAt (record y { ready = false })
    takes_busy runs v is = subst (λ e. IsBusy e (record y { ready = false })) (only z v is) (record { free = (k.runs runs).0; ready = refl; kept = not_kept runs })

    -- another body
    pub bodies_fit : (b : B) → Fits (with_entry (λ e. record e { body = record e.body { body = b } }) y)
    bodies_fit b = record {
      wait = k.wait;
      muted = k.muted;
      has_room = k.has_room;
      time = k.time;
      zero = k.zero;
      runs = λ is. (record { wait = (k.runs is).0.wait; deadline = (k.runs is).0.deadline }, (k.runs is).1);
      kept = λ is. (record { wait = (k.kept is).0.wait; deadline = (k.kept is).0.deadline }, (k.kept is).1);
    }

    pub bodies_busy : (b : B) → IsBusyAt y → IsBusyAt (with_entry (λ e. record e { body = record e.body { body = b } }) y)
    bodies_busy b busy v is = subst (λ e. IsBusy e (with_entry (λ e. record e { body = record e.body { body = b } }) y)) (only (record z { body = record z.body { body = b } }) v is)
        (let w = busy z refl in record { free = record { wait = w.free.wait; deadline = w.free.deadline }; ready = w.ready; kept = w.kept })

    -- a new one is runnable, or waits for its static sensitivity
    pub joins_here : IsFree z → z.kept ≡ false → z.suspended ≡ false → Does (λ v. record v { ready = true }) (λ i. i) true y
    joins_here free unkept goes = record {
      fits = record { wait = k.wait; muted = k.muted; has_room = k.has_room; time = k.time; zero = k.zero; runs = λ is. (free, goes); kept = k.kept };
      there = refl;
      shown = refl;
      ready = refl;
      body = refl;
    }

    pub statics_here : IsFree z → z.kept ≡ false → x.ready ≡ false
        → Does (λ v. with_entry (λ e. record e { wait = waiting.Static; deadline = due.None }) (record v { wait = listed_as how.Static (sensitive_of v.entry) })) (λ i. record i { wait = waits_statically }) false y
    statics_here free unkept unready = record {
      fits = record {
        wait = refl;
        muted = k.muted;
        has_room = k.has_room;
        time = k.time ∙ ap time_of free.deadline;
        zero = k.zero ∙ ap is_zero free.deadline;
        runs = λ is. never unready is;
        kept = λ is. never unkept is;
      };
      there = refl;
      shown = ap (λ d. Some (record (as_instance z x.wait) { wait = waits_statically; deadline = deadline_of d })) (sym free.deadline);
      ready = unready;
      body = refl;
    }
