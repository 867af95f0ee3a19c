-- Instances whose waits end by time are due.
use Rattle.std.proofs.Common.{◌≡◌, ◌≤◌, ◌<◌, ◌||◌, ℕ, Bool, true, false, cond, [], ◌∷◌, ◌++◌, length, Option, Some, None, option_map, refl, sym, ap, ◌∙◌, arith, true≢false, ⊎_elim, subst, ne_eqb, not}
use Rattle.std.specs.Prelude.{is_some, vec_capacity, unwrap_or}
use Rattle.std.proofs.lemmas.Bool.{cases_eq}
use Rattle.std.specs.Ordering.{nat_cmp}
use Rattle.std.specs.FinMap as map
use Rattle.std.specs.FinSet as set
use Rattle.std.specs.Global.{Vec}
use Rattle.instance_table.specs.declared.instances.Instance.{Instance as Entry}
use Rattle.instance_table.specs.declared.instances.Deadline.TheVariants as due
use Rattle.timed_queue.specs.SimTime.declared.moments.Time.{Time}
use Rattle.timed_queue.specs.Timed as timed
use Rattle.timed_queue.specs.Timed.{Timed}
use Rattle.timed_queue.proofs.MapLemmas.{same_gets}
use Rattle.kernel_processes.specs.InstanceViews.{Seen, seen, is_on, as_instance, shown_at, deadline_of}
use Rattle.kernel_processes.specs.Sound.{Fits, FitsAs, IsSound, IsOnce, time_of}
use Rattle.kernel_processes.specs.Moves.{Changes}
use Rattle.kernel_processes.specs.declared.parts.Process.{Process}
use Rattle.kernel_processes.specs.declared.parts.Schedule.{Schedule}
use Rattle.kernel_processes.proofs.Sounding.{on_last, once_more}
use Rattle.sim_model.specs.Phases.{is_zero_timeout, is_due_at}
use Rattle.kernel_processes.specs.Times.{over, over_if, PutsAllOver, TakesSome, TakesDue, HasNoTime, HasNoTimeBefore, IsEarliestTime}
use Rattle.wait_lists.proofs.LawLemmas.{len-le}
use Rattle.kernel_processes.proofs.Fired.{on_counted}
use Rattle.instance_table.specs.declared.instances.Deadline.{Deadline as Kept}
use Rattle.sim_model.specs.Configuration.{Instance, Deadline, no_deadline, next_delta, at_time}
use Rattle.std.specs.declared.cmp.Ordering.TheVariants.{Equal}
use Rattle.kernel_processes.proofs.Room.{list_has_room}
use Rattle.kernel_processes.proofs.Overs.{picks_zero, picks_time, is_time, one_over, takes_due, takes_sound}

or-nothing : (b : Bool) → (b || false) ≡ b
or-nothing true = refl
or-nothing false = refl

abbrev is_timed : Deadline → Bool
is_timed no_deadline = false
is_timed next_delta = false
is_timed (at_time t) = true

abbrev time_in : Deadline → ℕ
time_in no_deadline = 0
time_in next_delta = 0
time_in (at_time t) = t

module _ {B : Type 0} where
  -- an entry is there where a zero time-out is
  zero_there : (x : Seen B) → Fits x → x.zero ≡ true → is_some x.entry ≡ true
  zero_there x fits is = by x.entry refl
    where
      by : (o : Option (Entry (Process B))) → x.entry ≡ o → is_some x.entry ≡ true
      by None none = absurd (true≢false (sym is ∙ (subst (λ o. FitsAs o x) none fits).zero))
      by (Some z) some = ap is_some some

  -- one with a zero time-out is taken
  module _ (s t u : Schedule B) (p : ℕ) (inv : TakesSome (λ x. x.zero) s t) (member : set.contains t.zero.members p ≡ true) (ch : Changes p over t u) where
    fresh : is_on t.due.items p ≡ false
    fresh = by (is_on t.due.items p) refl
      where
        by : (b : Bool) → is_on t.due.items p ≡ b → is_on t.due.items p ≡ false
        by true on = absurd (true≢false (sym member ∙ ap (λ x. x.zero) (inv.each p ∙ ap (λ b. over_if b (seen s p)) on)))
        by false off = off

    was_zero : (seen s p).zero ≡ true
    was_zero = ap (λ x. x.zero) (sym (inv.each p ∙ ap (λ b. over_if b (seen s p)) fresh)) ∙ member

    lives : map.contains_key s.table.live p ≡ true
    lives = zero_there (seen s p) (inv.sound.each p) was_zero

    lives_due : (q : ℕ) → is_on t.due.items q ≡ true → map.contains_key s.table.live q ≡ true
    lives_due q on = zero_there (seen s q) (inv.sound.each q) (inv.was q on)

    pub due_has_room : length t.due.items < vec_capacity t.due
    due_has_room =
        let less = list_has_room s.table.live t.due.items p inv.once lives_due lives fresh in
        let room = inv.sound.due_room in
        let same = inv.capacity in
        omega (arith, less, room, same)

    pub due_is_less : length t.due.items < map.len t.table.live
    due_is_less =
        let less = list_has_room s.table.live t.due.items p inv.once lives_due lives fresh in
        let same = inv.count in
        omega (arith, less, same)

    pub due_more : (v : Vec ℕ) → v.items ≡ t.due.items ++ p ∷ [] → vec_capacity v ≡ vec_capacity t.due → TakesSome (λ x. x.zero) s (record u { due = v })
    due_more v more capacity = record {
      each = one_over s t u p ch t.due.items v.items more inv.each;
      was = λ q on. ⊎_elim
          (λ same. subst (λ n. (seen s n).zero ≡ true) same was_zero)
          (λ apart. inv.was q (sym (ap (λ xs. is_on xs q) more ∙ on_last t.due.items p q ∙ ap (λ b. is_on t.due.items q || b) (ne_eqb p q apart) ∙ or-nothing (is_on t.due.items q)) ∙ on))
          (cases_eq p q);
      once = subst IsOnce (sym more) (once_more t.due.items p inv.once fresh);
      stack = ch.stack ∙ inv.stack;
      woken = ch.woken ∙ inv.woken;
      next = ch.next ∙ inv.next;
      capacity = capacity ∙ inv.capacity;
      count = ch.count ∙ inv.count;
      places = ch.places ∙ inv.places;
      sound = inv.sound;
    }

  -- all with a zero time-out are taken
  module _ (s t : Schedule B) (inv : TakesSome (λ x. x.zero) s t) (empty : t.zero.members ≡ set.empty) where
    on_zero : (q : ℕ) → is_on t.due.items q ≡ (seen s q).zero
    on_zero q = by (is_on t.due.items q) refl
      where
        by : (b : Bool) → is_on t.due.items q ≡ b → is_on t.due.items q ≡ (seen s q).zero
        by true on = on ∙ sym (inv.was q on)
        by false off = off ∙ sym (ap (λ x. x.zero) (sym (inv.each q ∙ ap (λ b. over_if b (seen s q)) off)) ∙ ap (λ m. set.contains m q) empty ∙ set.contains-empty nat_cmp q)

    each_zero : (q : ℕ) → seen t q ≡ over_if (seen s q).zero (seen s q)
    each_zero q = inv.each q ∙ ap (λ b. over_if b (seen s q)) (on_zero q)

    pub takes_zeros : TakesDue is_zero_timeout s t
    takes_zeros = takes_due is_zero_timeout (λ x. x.zero) picks_zero s t inv.sound each_zero on_zero inv.stack inv.woken inv.next inv.capacity inv.count inv.places

    pub takes_zeros_sound : IsSound t
    takes_zeros_sound = takes_sound is_zero_timeout (λ x. x.zero) picks_zero s t inv.sound each_zero on_zero inv.stack inv.woken inv.next inv.capacity inv.count inv.places

  -- ---- those at a time

  module _ (s : Schedule B) (sound : IsSound s) (t : Time) where
    time_there : (q : ℕ) → map.contains_key s.deadlines.times q ≡ true → map.contains_key s.table.live q ≡ true
    time_there q has = by (map.get s.table.live q) refl
      where
        by : (o : Option (Entry (Process B))) → map.get s.table.live q ≡ o → map.contains_key s.table.live q ≡ true
        by None none = absurd (true≢false (sym has ∙ ap is_some (subst (λ o. FitsAs o (seen s q)) none (sound.each q)).time))
        by (Some z) some = ap is_some some

    pub times_within : map.len s.deadlines.times ≤ map.len s.table.live
    times_within = len-le s.deadlines.times s.table.live time_there

    same_test : (o : Option Time) → timed.is_at t o ≡ is_time t.0 o
    same_test None = refl
    same_test (Some u) = refl

    module _ (d : Timed) (v : Vec ℕ) (nobody : s.due.items ≡ []) (left : d ≡ timed.without_due s.deadlines t) (taken : timed.AddsEach s.due.items v.items (timed.is_due s.deadlines.times t)) (capacity : vec_capacity v ≡ vec_capacity s.due) where
      on_time : (q : ℕ) → is_on v.items q ≡ is_time t.0 (seen s q).time
      on_time q = ap (λ xs. is_on xs q) (taken.behind ∙ ap (λ xs. xs ++ taken.added) nobody) ∙ on_counted q taken.added (timed.is_due s.deadlines.times t q) (taken.once q) ∙ same_test (map.get s.deadlines.times q)

      time_left : (q : ℕ) (b : Bool) → is_time t.0 (seen s q).time ≡ b → over_if b (seen (record s { deadlines = d; due = v }) q) ≡ over_if b (seen s q)
      time_left q true is = refl
      time_left q false is = ap (λ o. record (seen s q) { time = o }) (ap (λ e. map.get e.times q) left
          ∙ map.get-retain_keys s.deadlines.times (λ n. not (timed.is_due s.deadlines.times t n)) q (λ n ties. ap (λ k. not (timed.is_due s.deadlines.times t k)) (sym (tied q n ties)))
          ∙ ap (λ b. cond (not b) (map.get s.deadlines.times q) None) (same_test (map.get s.deadlines.times q) ∙ is))
        where
          tied : (a b : ℕ) → nat_cmp a b ≡ Equal → a ≡ b
          tied a b ties = map.nat_cmp-IsAntisymmetric a b ties

      -- they have left the queue
      pub due_left : (q : ℕ) → is_on v.items q ≡ true → map.get d.times q ≡ None
      due_left q on = ap (λ e. map.get e.times q) left
          ∙ map.get-retain_keys s.deadlines.times (λ n. not (timed.is_due s.deadlines.times t n)) q (λ n ties. ap (λ k. not (timed.is_due s.deadlines.times t k)) (sym (map.nat_cmp-IsAntisymmetric q n ties)))
          ∙ ap (λ b. cond (not b) (map.get s.deadlines.times q) None) (same_test (map.get s.deadlines.times q) ∙ sym (on_time q) ∙ on)

      module _ (u : Schedule B) (puts : PutsAllOver (record s { deadlines = d; due = v }) u) where
        each_time : (q : ℕ) → seen u q ≡ over_if (is_time t.0 (seen s q).time) (seen s q)
        each_time q = puts.each q ∙ ap (λ b. over_if b (seen (record s { deadlines = d; due = v }) q)) (on_time q) ∙ time_left q (is_time t.0 (seen s q).time) refl

        on_after : (q : ℕ) → is_on u.due.items q ≡ is_time t.0 (seen s q).time
        on_after q = ap (λ w. is_on w.items q) puts.due ∙ on_time q

        pub takes_times : TakesDue (is_due_at t.0) s u
        takes_times = takes_due (is_due_at t.0) (λ x. is_time t.0 x.time) (picks_time t.0) s u sound each_time on_after puts.stack puts.woken puts.next (ap vec_capacity puts.due ∙ capacity) puts.count puts.places

        pub takes_times_sound : IsSound u
        takes_times_sound = takes_sound (is_due_at t.0) (λ x. is_time t.0 x.time) (picks_time t.0) s u sound each_time on_after puts.stack puts.woken puts.next (ap vec_capacity puts.due ∙ capacity) puts.count puts.places

  -- ---- the earliest

  module _ (s : Schedule B) (sound : IsSound s) where
    timed_as : (d : Kept) (t : ℕ) → deadline_of d ≡ at_time t → time_of d ≡ Some (record { 0 = t })
    timed_as due.None t is = absurd (true≢false (ap (λ e. is_timed e) (sym is)))
    timed_as due.Delta t is = absurd (true≢false (ap (λ e. is_timed e) (sym is)))
    timed_as (due.At u) t is = ap (λ e. Some (record { 0 = time_in e })) is

    shown_as : (d : Kept) (t : Time) → time_of d ≡ Some t → deadline_of d ≡ at_time t.0
    shown_as due.None t is = absurd (true≢false (ap is_some (sym is)))
    shown_as due.Delta t is = absurd (true≢false (ap is_some (sym is)))
    shown_as (due.At u) t is = ap (λ o. at_time (unwrap_or o t).0) is

    -- what shows a time has it in the queue
    in_queue : (q : ℕ) (i : Instance) (t : ℕ) → shown_at s q ≡ Some i → i.deadline ≡ at_time t → map.get s.deadlines.times q ≡ Some (record { 0 = t })
    in_queue q i t shown at = by (map.get s.table.live q) refl
      where
        by : (o : Option (Entry (Process B))) → map.get s.table.live q ≡ o → map.get s.deadlines.times q ≡ Some (record { 0 = t })
        by None none = absurd (true≢false (sym (ap is_some (sym (ap (option_map (λ z. as_instance z (seen s q).wait)) none) ∙ shown))))
        by (Some z) some = (subst (λ o. FitsAs o (seen s q)) some (sound.each q)).time
            ∙ timed_as z.deadline t (ap (λ o. (unwrap_or o i).deadline) (sym (ap (option_map (λ z. as_instance z (seen s q).wait)) some) ∙ shown) ∙ at)

    pub no_times : s.deadlines.times ≡ map.empty → HasNoTime s
    no_times empty = record { none = λ q i t shown at. true≢false (ap is_some (sym (in_queue q i t shown at) ∙ ap (λ m. map.get m q) empty ∙ map.get-empty nat_cmp q)) }

    -- and what is in the queue is shown
    queued_is_shown : HasNoTime s → (q : ℕ) (t : Time) → map.get s.deadlines.times q ≡ Some t → (o : Option (Entry (Process B))) → map.get s.table.live q ≡ o → ⊥
    queued_is_shown nobody q t queued None none = true≢false (ap is_some (sym queued ∙ (subst (λ o. FitsAs o (seen s q)) none (sound.each q)).time))
    queued_is_shown nobody q t queued (Some z) some = nobody.none q (as_instance z (seen s q).wait) t.0
        (ap (option_map (λ z. as_instance z (seen s q).wait)) some)
        (shown_as z.deadline t (sym (subst (λ o. FitsAs o (seen s q)) some (sound.each q)).time ∙ queued))

    none_queued : HasNoTime s → (q : ℕ) (o : Option Time) → map.get s.deadlines.times q ≡ o → o ≡ None
    none_queued nobody q None queued = refl
    none_queued nobody q (Some t) queued = absurd (queued_is_shown nobody q t queued (map.get s.table.live q) refl)

    pub no_queue : HasNoTime s → s.deadlines.times ≡ map.empty
    no_queue nobody = same_gets map.empty s.deadlines.times (λ q. none_queued nobody q (map.get s.deadlines.times q) refl ∙ sym (map.get-empty nat_cmp q))

    pub no_times_before : (t : Time) → ((q : ℕ) (u : Time) → map.get s.deadlines.times q ≡ Some u → t.0 ≤ u.0) → HasNoTimeBefore s t.0
    no_times_before t from = record { least = λ q i u shown at. from q (record { 0 = u }) (in_queue q i u shown at) }

    pub earliest_time : (t : Time) → timed.IsEarliest s.deadlines.times t → IsEarliestTime s t.0
    earliest_time t is = record {
      held = let r = by (map.get s.table.live is.held.0) refl in (is.held.0, r.0, r.1, r.2);
      least = λ q i u shown at. is.least q (record { 0 = u }) (in_queue q i u shown at);
    }
      where
        by : (o : Option (Entry (Process B))) → map.get s.table.live is.held.0 ≡ o → (i : Instance) × (shown_at s is.held.0 ≡ Some i) × (i.deadline ≡ at_time t.0)
        by None none = absurd (true≢false (ap is_some (sym is.held.1 ∙ (subst (λ o. FitsAs o (seen s is.held.0)) none (sound.each is.held.0)).time)))
        by (Some z) some = (
          as_instance z (seen s is.held.0).wait,
          ap (option_map (λ z. as_instance z (seen s is.held.0).wait)) some,
          shown_as z.deadline t (sym (subst (λ o. FitsAs o (seen s is.held.0)) some (sound.each is.held.0)).time ∙ is.held.1),
        )
