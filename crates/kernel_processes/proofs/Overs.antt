-- Waits that end by time, told by what is seen of each serial.
use Rattle.std.proofs.Common.{◌≡◌, ◌≤◌, ◌<◌, ◌-◌, ◌+◌, ◌^◌, ◌==◌, ◌||◌, ℕ, Bool, true, false, List, [], ◌∷◌, ◌++◌, Option, Some, None, take, option_map, refl, sym, ap, ◌∙◌, arith, true≢false, ⊎_elim, subst, ne_eqb}
use Rattle.std.specs.Prelude.{is_some, vec_capacity, if◌then◌else◌, unwrap_or}
use Rattle.std.proofs.lemmas.Bool.{cases_eq}
use Rattle.std.specs.FinMap as map
use Rattle.std.specs.FinSet as set
use Rattle.instance_table.specs.declared.instances.Instance.{Instance as Entry}
use Rattle.instance_table.specs.declared.instances.Deadline.{Deadline as Kept}
use Rattle.instance_table.specs.declared.instances.Deadline.TheVariants as due
use Rattle.timed_queue.specs.SimTime.declared.moments.Time.{Time}
use Rattle.sim_model.specs.Configuration.{Deadline, no_deadline}
use Rattle.sim_model.specs.Phases.{without_deadline, is_zero_timeout, is_due_at}
use Rattle.kernel_processes.specs.Woken.{if_there}
use Rattle.kernel_processes.specs.InstanceViews.{Seen, seen, is_on, as_instance, shown_in, deadline_of}
use Rattle.kernel_processes.specs.Sound.{IsKept, IsBusy, Fits, FitsAs, IsSound, IsOnce, time_of, is_zero}
use Rattle.kernel_processes.specs.Moves.{Changes}
use Rattle.instance_table.specs.declared.TheConstants.{MAX_LIVE}
use Rattle.kernel_processes.proofs.Sounding.{on_last, on_top}
use Rattle.kernel_processes.specs.declared.parts.Process.{Process}
use Rattle.kernel_processes.specs.declared.parts.Schedule.{Schedule}
use Rattle.kernel_processes.specs.Times.{over_entry, over, over_if, PutsSomeOver, TakesDue}
use Rattle.kernel_processes.proofs.Single.{at_entry, kept_of, IsBusyAt}

module _ {B : Type 0} where
  -- the time-outs that a test picks: those of the next delta notification phase, or those at a time
  pub record Picks (test : Deadline → Bool) (pick : Seen B → Bool) : Type 0 where
    pub same : (x : Seen B) (z : Entry (Process B)) → x.entry ≡ Some z → IsKept z x → test (deadline_of z.deadline) ≡ pick x
    pub none : (x : Seen B) → x.entry ≡ None → Fits x → pick x ≡ false

  pub over_fits : (b : Bool) (x : Seen B) → Fits x → Fits (over_if b x)
  over_fits false x fits = fits
  over_fits true x fits = by x.entry refl
    where
      by : (o : Option (Entry (Process B))) → x.entry ≡ o → Fits (over x)
      by None none = subst (λ o. FitsAs (option_map over_entry o) (record x { entry = option_map over_entry o; time = None; zero = false })) (sym none)
          (let n = subst (λ o. FitsAs o x) none fits in record { wait = n.wait; muted = n.muted; has_room = n.has_room; time = refl; zero = refl; ready = n.ready })
      by (Some z) some = at_entry (λ v. Fits (over v)) x z some
          (let k = kept_of x z some fits in record {
            wait = k.wait;
            muted = k.muted;
            has_room = k.has_room;
            time = refl;
            zero = refl;
            runs = λ is. (record { wait = (k.runs is).0.wait; deadline = refl }, (k.runs is).1);
            kept = λ is. (record { wait = (k.kept is).0.wait; deadline = refl }, (k.kept is).1);
          })

  pub over_there : (b : Bool) (x : Seen B) → is_some (over_if b x).entry ≡ is_some x.entry
  over_there false x = refl
  over_there true x = by x.entry
    where
      by : (o : Option (Entry (Process B))) → is_some (option_map over_entry o) ≡ is_some o
      by None = refl
      by (Some z) = refl

  pub over_body : (b : Bool) (x : Seen B) → option_map (λ (z : Entry (Process B)). z.body.body) (over_if b x).entry ≡ option_map (λ (z : Entry (Process B)). z.body.body) x.entry
  over_body false x = refl
  over_body true x = by x.entry
    where
      by : (o : Option (Entry (Process B))) → option_map (λ (z : Entry (Process B)). z.body.body) (option_map over_entry o) ≡ option_map (λ (z : Entry (Process B)). z.body.body) o
      by None = refl
      by (Some z) = refl

  pub over_ready : (b : Bool) (x : Seen B) → (over_if b x).ready ≡ x.ready
  over_ready true x = refl
  over_ready false x = refl

  -- one that is busy has no time-out, and so is not picked
  pub over_busy : (b : Bool) (x : Seen B) → IsBusyAt x → IsBusyAt (over_if b x)
  over_busy false x busy = busy
  over_busy true x busy = by x.entry refl
    where
      by : (o : Option (Entry (Process B))) → x.entry ≡ o → IsBusyAt (over x)
      by None none = subst (λ o. IsBusyAt (record x { entry = option_map over_entry o; time = None; zero = false })) (sym none) (λ z at. absurd (true≢false (sym (ap is_some at))))
      by (Some z) some = at_entry (λ v. IsBusyAt (over v)) x z some (λ v at. subst (λ e. IsBusy e (record x { entry = Some (over_entry z); time = None; zero = false })) (ap (λ o. unwrap_or o (over_entry z)) at)
          (let b = busy z some in record { free = record { wait = b.free.wait; deadline = refl }; ready = b.ready; kept = b.kept }))

  module _ (test : Deadline → Bool) (pick : Seen B → Bool) (picks : Picks test pick) where
    without_by : (z : Entry (Process B)) (x : Seen B) (b : Bool) → test (deadline_of z.deadline) ≡ b → shown_in (over_if b (record x { entry = Some z })) ≡ Some (without_deadline test (as_instance z x.wait))
    without_by z x true is = ap (λ b. Some (if b then record (as_instance z x.wait) { deadline = no_deadline } else as_instance z x.wait)) (sym is)
    without_by z x false is = ap (λ b. Some (if b then record (as_instance z x.wait) { deadline = no_deadline } else as_instance z x.wait)) (sym is)

    pub over_shown : (x : Seen B) → Fits x → shown_in (over_if (pick x) x) ≡ option_map (without_deadline test) (shown_in x)
    over_shown x fits = by x.entry refl
      where
        by : (o : Option (Entry (Process B))) → x.entry ≡ o → shown_in (over_if (pick x) x) ≡ option_map (without_deadline test) (shown_in x)
        by None none = ap (λ b. shown_in (over_if b x)) (picks.none x none fits) ∙ ap (option_map (λ (z : Entry (Process B)). as_instance z x.wait)) none
            ∙ sym (ap (λ o. option_map (without_deadline test) (option_map (λ (z : Entry (Process B)). as_instance z x.wait) o)) none)
        by (Some z) some = ap (λ b. shown_in (over_if b x)) (sym (picks.same x z some (kept_of x z some fits)))
            ∙ ap (λ o. shown_in (over_if (test (deadline_of z.deadline)) (record x { entry = o }))) some
            ∙ without_by z x (test (deadline_of z.deadline)) refl
            ∙ sym (ap (λ o. option_map (without_deadline test) (option_map (λ (z : Entry (Process B)). as_instance z x.wait) o)) some)

    pub over_due : (x : Seen B) → Fits x → pick x ≡ if_there (λ i. test i.deadline) (shown_in x)
    over_due x fits = by x.entry refl
      where
        by : (o : Option (Entry (Process B))) → x.entry ≡ o → pick x ≡ if_there (λ i. test i.deadline) (shown_in x)
        by None none = picks.none x none fits ∙ sym (ap (λ o. if_there (λ i. test i.deadline) (option_map (λ (z : Entry (Process B)). as_instance z x.wait) o)) none)
        by (Some z) some = sym (picks.same x z some (kept_of x z some fits)) ∙ sym (ap (λ o. if_there (λ i. test i.deadline) (option_map (λ (z : Entry (Process B)). as_instance z x.wait) o)) some)

-- ---- the two tests

zero_same : (d : Kept) → is_zero_timeout (deadline_of d) ≡ is_zero d
zero_same due.None = refl
zero_same due.Delta = refl
zero_same (due.At t) = refl

abbrev pub is_time : ℕ → Option Time → Bool
is_time t None = false
is_time t (Some u) = u.0 == t

due_same : (t : ℕ) (d : Kept) → is_due_at t (deadline_of d) ≡ is_time t (time_of d)
due_same t due.None = refl
due_same t due.Delta = refl
due_same t (due.At u) = refl

module _ {B : Type 0} where
  pub picks_zero : Picks {B = B} is_zero_timeout (λ x. x.zero)
  picks_zero = record {
    same = λ x z at k. zero_same z.deadline ∙ sym k.zero;
    none = λ x none fits. (subst (λ o. FitsAs o x) none fits).zero;
  }

  pub picks_time : (t : ℕ) → Picks {B = B} (is_due_at t) (λ x. is_time t x.time)
  picks_time t = record {
    same = λ x z at k. due_same t z.deadline ∙ ap (is_time t) (sym k.time);
    none = λ x none fits. ap (is_time t) (subst (λ o. FitsAs o x) none fits).time;
  }

  -- ---- all together

  -- each of those that the test picks is due, and no other
  module _ (test : Deadline → Bool) (pick : Seen B → Bool) (picks : Picks test pick) (s t : Schedule B) (sound : IsSound s)
      (each : (q : ℕ) → seen t q ≡ over_if (pick (seen s q)) (seen s q)) (on : (q : ℕ) → is_on t.due.items q ≡ pick (seen s q))
      (stack : t.stack ≡ s.stack) (woken : t.woken ≡ s.woken) (next : t.table.next ≡ s.table.next) (capacity : vec_capacity t.due ≡ vec_capacity s.due)
      (count : map.len t.table.live ≡ map.len s.table.live) (places : set.len t.ready.members + t.ready.spare ≡ set.len s.ready.members + s.ready.spare) where
    pub takes_due : TakesDue test s t
    takes_due = record {
      shown = λ q. ap shown_in (each q) ∙ over_shown test pick picks (seen s q) (sound.each q);
      due = λ q. on q ∙ over_due test pick picks (seen s q) (sound.each q);
      ready = λ q. ap (λ x. x.ready) (each q) ∙ over_ready (pick (seen s q)) (seen s q);
      bodies = λ q. ap (λ x. option_map (λ (z : Entry (Process B)). z.body.body) x.entry) (each q) ∙ over_body (pick (seen s q)) (seen s q);
      stack = stack;
      next = next;
    }

    there : (q : ℕ) → map.contains_key t.table.live q ≡ map.contains_key s.table.live q
    there q = ap (λ x. is_some x.entry) (each q) ∙ over_there (pick (seen s q)) (seen s q)

    pub takes_sound : IsSound t
    takes_sound = record {
      each = λ q. subst Fits (sym (each q)) (over_fits (pick (seen s q)) (seen s q) (sound.each q));
      active = λ q is. there q ∙ sound.active q (ap (λ v. is_on v.items q) (sym stack) ∙ is);
      once = subst (λ v. IsOnce v.items) (sym stack) sound.once;
      busy = λ q x is some. subst (IsBusy x) (sym (each q)) (over_busy (pick (seen s q)) (seen s q) (λ z at. sound.busy q z (ap (λ v. is_on v.items q) (sym stack) ∙ is) at) x (ap (λ v. v.entry) (sym (each q)) ∙ some));
      stack_room = subst (λ v. map.len t.table.live ≤ vec_capacity v) (sym stack) (subst (λ n. n ≤ vec_capacity s.stack) (sym count) sound.stack_room);
      ready_room = let room = sound.ready_room in omega (arith, room, count, places);
      woken_room = subst (λ v. map.len t.table.live ≤ vec_capacity v) (sym woken) (subst (λ n. n ≤ vec_capacity s.woken) (sym count) sound.woken_room);
      due_room = let room = sound.due_room in omega (arith, room, count, capacity);
      nobody_woken = ap (λ v. v.items) woken ∙ sound.nobody_woken;
      few = subst (λ n. n ≤ MAX_LIVE) (sym count) sound.few;
      below = λ q is. subst (λ n. q < n) (sym next) (sound.below q (sym (there q) ∙ is));
      serials = subst (λ n. n < 2 ^ 32 - 1) (sym next) sound.serials;
    }

  -- ---- one after another

  time_over : (b : Bool) (x : Seen B) → x.time ≡ None → (over_if b x).time ≡ None
  time_over true x none = refl
  time_over false x none = none

  -- who had left the queue of times still has
  pub still_left : (s t : Schedule B) (n : ℕ) → PutsSomeOver n s t → (q : ℕ) → map.get s.deadlines.times q ≡ None → map.get t.deadlines.times q ≡ None
  still_left s t n some q none = ap (λ x. x.time) (some.each q) ∙ time_over (is_on (take n s.due.items) q) (seen s q) none

  pub over_twice : (b : Bool) (x : Seen B) → over (over_if b x) ≡ over x
  over_twice false x = refl
  over_twice true x = by x.entry refl
    where
      by : (o : Option (Entry (Process B))) → x.entry ≡ o → over (over x) ≡ over x
      by None none = ap (λ o. record x { entry = option_map over_entry (option_map over_entry o); time = None; zero = false }) none ∙ sym (ap (λ o. record x { entry = option_map over_entry o; time = None; zero = false }) none)
      by (Some z) some = ap (λ o. record x { entry = option_map over_entry (option_map over_entry o); time = None; zero = false }) some ∙ sym (ap (λ o. record x { entry = option_map over_entry o; time = None; zero = false }) some)

  module _ (s t u : Schedule B) (p : ℕ) (ch : Changes p over t u) where
    -- the list with this one more, from where a front of it was over
    pub one_over : (xs ys : List ℕ) → ys ≡ xs ++ p ∷ [] → ((q : ℕ) → seen t q ≡ over_if (is_on xs q) (seen s q)) → (q : ℕ) → seen u q ≡ over_if (is_on ys q) (seen s q)
    one_over xs ys more each q = ⊎_elim
        (λ same. subst (λ n. seen u n ≡ over_if (is_on ys n) (seen s n)) (sym same)
        (ch.here ∙ ap over (each p) ∙ over_twice (is_on xs p) (seen s p) ∙ sym (ap (λ b. over_if b (seen s p)) (ap (λ zs. is_on zs p) more ∙ on_top xs p))))
        (λ apart. ch.others q apart ∙ each q ∙ sym (ap (λ b. over_if b (seen s q)) (ap (λ zs. is_on zs q) more ∙ on_last xs p q ∙ ap (λ b. is_on xs q || b) (ne_eqb p q (λ same. apart (sym same))) ∙ or-nothing (is_on xs q))))
        (cases_eq q p)
      where
        or-nothing : (b : Bool) → (b || false) ≡ b
        or-nothing true = refl
        or-nothing false = refl
