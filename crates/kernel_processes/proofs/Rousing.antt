-- A wake, told by what is seen of one serial.
use Rattle.std.proofs.Common.{◌≡◌, ◌≢◌, ◌≤◌, ◌<◌, ◌-◌, ◌^◌, ◌&&◌, ◌||◌, not, ℕ, Bool, true, false, Option, Some, None, option_map, refl, sym, ap, ◌∙◌, arith, true≢false, ⊎_elim, eq-eqb, ne_eqb, subst}
use Rattle.std.specs.Prelude.{if◌then◌else◌, is_some, vec_capacity}
use Rattle.std.proofs.lemmas.Bool.{cases_eq}
use Rattle.std.specs.FinMap as map
use Rattle.std.specs.FinSet as set
use Rattle.instance_table.specs.declared.TheConstants.{MAX_LIVE}
use Rattle.instance_table.specs.declared.instances.Instance.{Instance as Entry}
use Rattle.instance_table.specs.declared.instances.Waiting.TheVariants as waiting
use Rattle.instance_table.specs.declared.instances.Deadline.TheVariants as due
use Rattle.sim_model.specs.Configuration.{Instance, waits_for_nothing, no_deadline}
use Rattle.sim_model.specs.Waits.{freed}
use Rattle.kernel_processes.specs.Woken.{roused, after_wake, joins, if_there, at_only, joins_only}
use Rattle.kernel_processes.specs.InstanceViews.{Seen, seen, is_on, as_instance, shown_in, shown_at, body_at}
use Rattle.kernel_processes.specs.Sound.{IsKept, IsBusy, Fits, FitsAs, IsSound, IsOnce}
use Rattle.kernel_processes.specs.Moves.{heard, is_heard, met_by, met, Changes, HasPlaces, Rouses}
use Rattle.kernel_processes.specs.declared.parts.Process.{Process}
use Rattle.kernel_processes.specs.declared.parts.Schedule.{Schedule}

pub not-true : (b : Bool) → not b ≡ true → b ≡ false
not-true true is = sym is
not-true false is = refl

pub or-false : (b : Bool) → (b || false) ≡ b
or-false true = refl
or-false false = refl

pub or-true : (b : Bool) → (b || true) ≡ true
or-true true = refl
or-true false = refl

-- ---- one serial, and the others

shown_only : (p q : ℕ) (active : Bool) (o : Option Instance) → q ≢ p → option_map (at_only p after_wake q active) o ≡ o
shown_only p q active None apart = refl
shown_only p q active (Some i) apart = ap (λ b. Some (if b then after_wake active i else i)) (ne_eqb q p apart)

shown_here : (p : ℕ) (active : Bool) (o : Option Instance) → option_map (at_only p after_wake p active) o ≡ option_map (after_wake active) o
shown_here p active None = refl
shown_here p active (Some i) = ap (λ b. Some (if b then after_wake active i else i)) (eq-eqb p p refl)

joins_nowhere : (p q : ℕ) (active : Bool) (o : Option Instance) → q ≢ p → if_there (joins_only p joins q active) o ≡ false
joins_nowhere p q active None apart = refl
joins_nowhere p q active (Some i) apart = ap (λ b. b && joins active i) (ne_eqb q p apart)

joins_here : (p : ℕ) (active : Bool) (o : Option Instance) → if_there (joins_only p joins p active) o ≡ if_there (joins active) o
joins_here p active None = refl
joins_here p active (Some i) = ap (λ b. b && joins active i) (eq-eqb p p refl)

module _ {B : Type 0} where
  -- ---- what a sound schedule has room for

  pub has_places : (s : Schedule B) → IsSound s → HasPlaces s
  has_places s sound = record {
    live = λ p is. by p is (map.get s.table.live p) refl;
    room = sound.ready_room;
    serials = λ p is. let below = sound.below p is in let small = sound.serials in omega (arith, below, small);
  }
    where
      by : (p : ℕ) → set.contains s.ready.members p ≡ true → (o : Option (Entry (Process B))) → map.get s.table.live p ≡ o → map.contains_key s.table.live p ≡ true
      by p is None none = absurd (true≢false (sym is ∙ (subst (λ o. FitsAs o (seen s p)) none (sound.each p)).ready))
      by p is (Some x) some = ap is_some some

  -- ---- one that hears, and is not active

  -- what is seen of it once its wait is taken out and it met the wake
  abbrev pub roused_seen : Seen B → Seen B
  roused_seen x = met (record x { wait = None })

  -- the entry of an instance that hears, by whether it is suspended
  module _ (x : Seen B) (y : Entry (Process B)) (at : x.entry ≡ Some y) (on : y.disabled ≡ false) where
    abbrev after : Seen B
    after = record x { entry = Some (record y { wait = waiting.None; deadline = due.None; kept = y.suspended || y.kept }); wait = None; time = None; zero = false; ready = x.ready || not y.suspended }

    pub becomes : roused_seen x ≡ after
    becomes = ap (λ o. met_by o (record x { wait = None })) at
        ∙ ap (λ b. if b then record x { wait = None } else record x { entry = Some (heard y); wait = None; time = None; zero = false; ready = x.ready || not y.suspended }) on
        ∙ ap (λ b. record x { entry = Some (if b then y else record y { wait = waiting.None; deadline = due.None; kept = y.suspended || y.kept }); wait = None; time = None; zero = false; ready = x.ready || not y.suspended }) on

    shown_by : (held : Bool) → y.suspended ≡ held → shown_in after ≡ Some (after_wake false (as_instance y x.wait))
    shown_by true held = ap Some (ap (λ k. record (as_instance y None) { wait = waits_for_nothing; deadline = no_deadline; kept = k || y.kept }) held
        ∙ sym (ap (λ b. if b then as_instance y x.wait else roused (as_instance y x.wait)) on
        ∙ ap (λ b. if b then record (freed (as_instance y x.wait)) { kept = true } else freed (as_instance y x.wait)) held))
    shown_by false free = ap Some (ap (λ k. record (as_instance y None) { wait = waits_for_nothing; deadline = no_deadline; kept = k || y.kept }) free
        ∙ sym (ap (λ b. if b then as_instance y x.wait else roused (as_instance y x.wait)) on
        ∙ ap (λ b. if b then record (freed (as_instance y x.wait)) { kept = true } else freed (as_instance y x.wait)) free))

    pub shown_after : shown_in (roused_seen x) ≡ Some (after_wake false (as_instance y x.wait))
    shown_after = ap shown_in becomes ∙ shown_by y.suspended refl

    pub fits_after : Fits x → Fits (roused_seen x)
    fits_after fits = subst Fits (sym becomes) (kept_after (subst (λ o. FitsAs o x) at fits))
      where
        run_after : (k : IsKept y x) (held : Bool) → y.suspended ≡ held → (x.ready || not held) ≡ true → held ≡ false
        run_after k true is runs = sym is ∙ (k.runs (sym (or-false x.ready) ∙ runs)).1
        run_after k false is runs = refl

        keep_after : (k : IsKept y x) (held : Bool) → y.suspended ≡ held → (held || y.kept) ≡ true → held ≡ true
        keep_after k true is keeps = refl
        keep_after k false is keeps = sym is ∙ (k.kept keeps).1

        kept_after : IsKept y x → Fits after
        kept_after k = record {
          wait = refl;
          muted = k.muted;
          has_room = k.has_room;
          time = refl;
          zero = refl;
          runs = λ is. (record { wait = refl; deadline = refl }, run_after k y.suspended refl is);
          kept = λ is. (record { wait = refl; deadline = refl }, keep_after k y.suspended refl is);
        }

    pub ready_after : (roused_seen x).ready ≡ (x.ready || joins false (as_instance y x.wait))
    ready_after = ap (λ z. z.ready) becomes ∙ sym (ap (λ b. x.ready || (not b && not y.suspended)) on)

    pub body_after : option_map (λ (e : Entry (Process B)). e.body.body) (roused_seen x).entry ≡ option_map (λ (e : Entry (Process B)). e.body.body) x.entry
    body_after = ap (λ z. option_map (λ (e : Entry (Process B)). e.body.body) z.entry) becomes ∙ sym (ap (option_map (λ (e : Entry (Process B)). e.body.body)) at)

  -- ---- nothing that can be heard

  deaf_shown : (active : Bool) (x : Seen B) (o : Option (Entry (Process B))) → x.entry ≡ o → (active || not (is_heard o)) ≡ true → option_map (after_wake active) (shown_in x) ≡ shown_in x
  deaf_shown active x None at deaf = ap (λ o. option_map (after_wake active) (option_map (λ e. as_instance e x.wait) o)) at ∙ sym (ap (option_map (λ e. as_instance e x.wait)) at)
  deaf_shown active x (Some y) at deaf = ap (λ o. option_map (after_wake active) (option_map (λ e. as_instance e x.wait) o)) at
      ∙ ap (λ b. Some (if b then as_instance y x.wait else roused (as_instance y x.wait))) (ap (λ b. active || b) (sym (not-not y.disabled)) ∙ deaf)
      ∙ sym (ap (option_map (λ e. as_instance e x.wait)) at)
    where
      not-not : (b : Bool) → not (not b) ≡ b
      not-not true = refl
      not-not false = refl

  deaf_joins : (active : Bool) (x : Seen B) (o : Option (Entry (Process B))) → x.entry ≡ o → (active || not (is_heard o)) ≡ true → if_there (joins active) (shown_in x) ≡ false
  deaf_joins active x None at deaf = ap (λ o. if_there (joins active) (option_map (λ e. as_instance e x.wait) o)) at
  deaf_joins active x (Some y) at deaf = ap (λ o. if_there (joins active) (option_map (λ e. as_instance e x.wait) o)) at
      ∙ ap (λ b. not b && not y.suspended) (ap (λ b. active || b) (sym (not-not y.disabled)) ∙ deaf)
    where
      not-not : (b : Bool) → not (not b) ≡ b
      not-not true = refl
      not-not false = refl

  module _ (s : Schedule B) (p : ℕ) where
    abbrev Woken : Schedule B → Type 0
    Woken t = Rouses (at_only p after_wake) (joins_only p joins) s t

    -- by what becomes of the one serial
    woken_by : (t : Schedule B) → ((q : ℕ) → q ≢ p → seen t q ≡ seen s q)
        → shown_at t p ≡ option_map (after_wake (is_on s.stack.items p)) (shown_at s p)
        → set.contains t.ready.members p ≡ (set.contains s.ready.members p || if_there (joins (is_on s.stack.items p)) (shown_at s p))
        → body_at t p ≡ body_at s p → t.due ≡ s.due → t.stack ≡ s.stack → t.table.next ≡ s.table.next → Woken t
    woken_by t others shown ready body due stack next = record {
      due = due;
      shown = λ q. ⊎_elim
          (λ same. subst (λ n. shown_at t n ≡ option_map (at_only p after_wake n (is_on s.stack.items n)) (shown_at s n)) (sym same) (shown ∙ sym (shown_here p (is_on s.stack.items p) (shown_at s p))))
          (λ apart. ap shown_in (others q apart) ∙ sym (shown_only p q (is_on s.stack.items q) (shown_at s q) apart))
          (cases_eq q p);
      ready = λ q. ⊎_elim
          (λ same. subst (λ n. set.contains t.ready.members n ≡ (set.contains s.ready.members n || if_there (joins_only p joins n (is_on s.stack.items n)) (shown_at s n))) (sym same)
          (ready ∙ ap (λ b. set.contains s.ready.members p || b) (sym (joins_here p (is_on s.stack.items p) (shown_at s p)))))
          (λ apart. ap (λ x. x.ready) (others q apart) ∙ sym (ap (λ b. set.contains s.ready.members q || b) (joins_nowhere p q (is_on s.stack.items q) (shown_at s q) apart) ∙ or-false (set.contains s.ready.members q)))
          (cases_eq q p);
      bodies = λ q. ⊎_elim
          (λ same. subst (λ n. body_at t n ≡ body_at s n) (sym same) body)
          (λ apart. ap (λ x. option_map (λ (e : Entry (Process B)). e.body.body) x.entry) (others q apart))
          (cases_eq q p);
      stack = stack;
      next = next;
    }

    pub unheard : (is_on s.stack.items p || not (is_heard (map.get s.table.live p))) ≡ true → Woken s
    unheard deaf = woken_by s (λ q apart. refl)
        (sym (deaf_shown (is_on s.stack.items p) (seen s p) (map.get s.table.live p) refl deaf))
        (sym (ap (λ b. set.contains s.ready.members p || b) (deaf_joins (is_on s.stack.items p) (seen s p) (map.get s.table.live p) refl deaf) ∙ or-false (set.contains s.ready.members p)))
        refl refl refl refl

    -- it is as it was where it cannot hear
    pub unheard_still : (t : Schedule B) → Changes p (λ x. x) s t → (is_on s.stack.items p || not (is_heard (map.get s.table.live p))) ≡ true → Woken t
    unheard_still t ch deaf = woken_by t ch.others
        (ap shown_in ch.here ∙ sym (deaf_shown (is_on s.stack.items p) (seen s p) (map.get s.table.live p) refl deaf))
        (ap (λ x. x.ready) ch.here ∙ sym (ap (λ b. set.contains s.ready.members p || b) (deaf_joins (is_on s.stack.items p) (seen s p) (map.get s.table.live p) refl deaf) ∙ or-false (set.contains s.ready.members p)))
        (ap (λ x. option_map (λ (e : Entry (Process B)). e.body.body) x.entry) ch.here)
        ch.due ch.stack ch.next

    -- an instance that hears
    module _ (t : Schedule B) (y : Entry (Process B)) (at : map.get s.table.live p ≡ Some y) (on : y.disabled ≡ false) (resting : is_on s.stack.items p ≡ false) (ch : Changes p roused_seen s t) where
      pub woke : Woken t
      woke = woken_by t ch.others
          (ap shown_in ch.here ∙ shown_after (seen s p) y at on
          ∙ sym (ap (λ b. option_map (after_wake b) (shown_at s p)) resting ∙ ap (λ o. option_map (after_wake false) (option_map (λ e. as_instance e (seen s p).wait) o)) at))
          (ap (λ x. x.ready) ch.here ∙ ready_after (seen s p) y at on
          ∙ sym (ap (λ b. set.contains s.ready.members p || if_there (joins b) (shown_at s p)) resting
          ∙ ap (λ o. set.contains s.ready.members p || if_there (joins false) (option_map (λ e. as_instance e (seen s p).wait) o)) at))
          (ap (λ x. option_map (λ (e : Entry (Process B)). e.body.body) x.entry) ch.here ∙ body_after (seen s p) y at on)
          ch.due ch.stack ch.next

      there : (q : ℕ) → map.contains_key t.table.live q ≡ map.contains_key s.table.live q
      there q = ⊎_elim
          (λ same. subst (λ n. map.contains_key t.table.live n ≡ map.contains_key s.table.live n) (sym same)
          (ap (λ x. is_some x.entry) (ch.here ∙ becomes (seen s p) y at on) ∙ sym (ap is_some at)))
          (λ apart. ap (λ x. is_some x.entry) (ch.others q apart))
          (cases_eq q p)

      pub still_sound : IsSound s → IsSound t
      still_sound sound = record {
        each = λ q. ⊎_elim
            (λ same. subst (λ n. Fits (seen t n)) (sym same) (subst Fits (sym ch.here) (fits_after (seen s p) y at on (sound.each p))))
            (λ apart. subst Fits (sym (ch.others q apart)) (sound.each q))
            (cases_eq q p);
        active = λ q is. there q ∙ sound.active q (ap (λ v. is_on v.items q) (sym ch.stack) ∙ is);
        once = subst (λ v. IsOnce v.items) (sym ch.stack) sound.once;
        busy = λ q x is some. ⊎_elim
            (λ same. absurd (true≢false (sym (ap (λ v. is_on v.items q) (sym ch.stack) ∙ is) ∙ ap (is_on s.stack.items) same ∙ resting)))
            (λ apart. subst (IsBusy x) (sym (ch.others q apart)) (sound.busy q x (ap (λ v. is_on v.items q) (sym ch.stack) ∙ is) (sym (ap (λ z. z.entry) (ch.others q apart)) ∙ some)))
            (cases_eq q p);
        stack_room = subst (λ v. map.len t.table.live ≤ vec_capacity v) (sym ch.stack) (subst (λ n. n ≤ vec_capacity s.stack) (sym ch.count) sound.stack_room);
        ready_room = let room = sound.ready_room in let count = ch.count in let places = ch.places in omega (arith, room, count, places);
        woken_room = subst (λ v. map.len t.table.live ≤ vec_capacity v) (sym ch.woken) (subst (λ n. n ≤ vec_capacity s.woken) (sym ch.count) sound.woken_room);
        due_room = subst (λ v. map.len t.table.live ≤ vec_capacity v) (sym ch.due) (subst (λ n. n ≤ vec_capacity s.due) (sym ch.count) sound.due_room);
        nobody_woken = ap (λ v. v.items) ch.woken ∙ sound.nobody_woken;
        few = subst (λ n. n ≤ MAX_LIVE) (sym ch.count) sound.few;
        below = λ q is. subst (λ n. q < n) (sym ch.next) (sound.below q (sym (there q) ∙ is));
        serials = subst (λ n. n < 2 ^ 32 - 1) (sym ch.next) sound.serials;
      }
