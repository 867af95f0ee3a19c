-- What is kept stays tied where what is pending for one event changes.
use Rattle.std.proofs.Common.{◌≡◌, ◌⊎◌, ◌<◌, ◌≤◌, ◌+◌, ◌-◌, inl, inr, ℕ, zero, suc, Bool, true, false, cond, List, [], length, get_or, set, refl, sym, ap, ◌∙◌, subst, ⊎_elim, arith, Option, None, Some, true≢false}
use Rattle.std.specs.Prelude.{◌==◌, is_some, count_by, IsTrue, replicate, vec_capacity}
use Rattle.std.specs.Global.{Vec}
use Rattle.std.specs.List.{All}
use Rattle.std.specs.FinMap as maps
use Rattle.std.proofs.lemmas.Bool.{cases_eq, eq-eqb, ne_eqb}
use Rattle.std.proofs.lemmas.List.Elements.{All-same, All-nil}
use Rattle.std.proofs.lemmas.List.{length-set, get_or-set_same, get_or-set_other, length-replicate}
use Rattle.std.proofs.lemmas.List.Sums.{sum_by-set, count_by-le-length}
use Rattle.std.proofs.lemmas.Option.{slice_get-get_or, slice_get_past}
use Rattle.sim_model.specs.NumberedSlots.Updated.{updated}
use Rattle.sim_model.proofs.NumberedSlots.MapLemmas.{same_gets, get-updated_same, get-updated_other}
use Rattle.timed_queue.proofs.MapLemmas.{get-removed}
use Rattle.sim_model.specs.EventCore.declared.notifications.Pending.{Pending}
use Rattle.sim_model.specs.EventCore.declared.notifications.Pending.TheVariants as pending
use Rattle.sim_model.specs.EventCore.declared.notifications.When.{When}
use Rattle.sim_model.specs.EventCore.Notifications.{pending_at, notified, comes_first, left_pending}
use Rattle.timed_queue.specs.SimTime.declared.moments.Time.{Time}
use Rattle.timed_queue.specs.Timed.{Timed, without}
use Rattle.sim_model.specs.Configuration.{change, changed_at}
use Rattle.kernel_events.specs.Layout.{time_of, is_timed, is_nothing, HasOthers, IsListed, IsTied, with_pending}

-- ---- a change at a number

pub changed_is : (events : List Pending) (e : ℕ) (f : Pending → Pending) → e < length events → set events e (f (pending_at events e)) ≡ change events e f
changed_is events e f h = ap (changed_at events e f) (sym (slice_get-get_or events e pending.Nothing h))

pub changed_past : (events : List Pending) (e : ℕ) (f : Pending → Pending) → length events ≤ e → events ≡ change events e f
changed_past events e f h = ap (changed_at events e f) (sym (slice_get_past events e h))

-- ---- the times and the room

times-with_pending : (q : Timed) (e : ℕ) (p : Pending) → (with_pending q e p).times ≡ updated q.times e (time_of p)
times-with_pending q e pending.Nothing = refl
times-with_pending q e pending.Delta = refl
times-with_pending q e (pending.At t) = refl

abbrev one_if : Bool → ℕ
one_if b = cond b 1 0

spare_then : (q : Timed) (e : ℕ) (p : Pending) (b : Bool) → maps.contains_key q.times e ≡ b → (b ≡ false → 1 ≤ q.spare)
    → (with_pending q e p).spare + one_if (is_timed p) ≡ q.spare + one_if b
spare_then q e pending.Nothing b is room = ap (λ c. cond c (q.spare + 1) q.spare + 0) is ∙ by_test b
  where
    by_test : (c : Bool) → cond c (q.spare + 1) q.spare + 0 ≡ q.spare + one_if c
    by_test true = omega arith
    by_test false = omega arith
spare_then q e pending.Delta b is room = ap (λ c. cond c (q.spare + 1) q.spare + 0) is ∙ by_test b
  where
    by_test : (c : Bool) → cond c (q.spare + 1) q.spare + 0 ≡ q.spare + one_if c
    by_test true = omega arith
    by_test false = omega arith
spare_then q e (pending.At t) b is room = ap (λ c. cond c q.spare (q.spare - 1) + 1) is ∙ by_test b room
  where
    by_test : (c : Bool) → (c ≡ false → 1 ≤ q.spare) → cond c q.spare (q.spare - 1) + 1 ≡ q.spare + one_if c
    by_test true some = omega arith
    by_test false some = let h = some refl in omega (arith, h)

module _ (events : List Pending) (listed : Vec ℕ) (timed : Timed) (n : ℕ) (tied : IsTied events listed timed n) (e : ℕ) (h : e < length events) where
  pub has_time : maps.contains_key timed.times e ≡ is_timed (pending_at events e)
  has_time = ap is_some (tied.times e)

  counted : (p : Pending) → count_by is_timed (set events e p) + one_if (is_timed (pending_at events e)) ≡ count_by is_timed events + one_if (is_timed p)
  counted p = sum_by-set (λ x. cond (is_timed x) 1 0) events e p pending.Nothing h

  -- where an event has no time there is room for one
  some_room : maps.contains_key timed.times e ≡ false → 1 ≤ timed.spare
  some_room none =
      let few : one_if (is_timed (pending_at events e)) ≡ 0 = ap one_if (sym has_time ∙ none) in
      let more = counted (pending.At (record { 0 = 0 })) in
      let most = count_by-le-length is_timed (set events e (pending.At (record { 0 = 0 }))) in
      let same = length-set events e (pending.At (record { 0 = 0 })) in
      let room = tied.room in
      omega (arith, few, more, most, same, room)

  pub room_for : IsTrue (maps.contains_key timed.times e) ⊎ (0 < timed.spare)
  room_for = by_test (maps.contains_key timed.times e) some_room
    where
      by_test : (b : Bool) → (b ≡ false → 1 ≤ timed.spare) → IsTrue b ⊎ (0 < timed.spare)
      by_test true room = inl refl
      by_test false room = let r = room refl in inr (omega (arith, r))

  pub same_size : (p : Pending) → n ≡ length (set events e p)
  same_size p = tied.size ∙ sym (length-set events e p)

  -- what the list is to be once this is pending for the event
  pub others_listed : (p : Pending) → HasOthers (set events e p) e listed.items
  others_listed p q apart is = tied.deltas.each q (sym (get_or-set_other events e q p pending.Nothing apart) ∙ is)

  pub below_still : (p : Pending) → All (λ q. q < length (set events e p)) listed.items
  below_still p = subst (λ m. All (λ q. q < m) listed.items) (sym (length-set events e p)) tied.deltas.below

  pub places_still : (p : Pending) → length (set events e p) ≤ vec_capacity listed
  places_still p = let places = tied.deltas.places in omega (arith, places, length-set events e p)

  pub pending_now : (p : Pending) → pending_at (set events e p) e ≡ p
  pending_now p = get_or-set_same events e p pending.Nothing h

  pub tied_changed : (p : Pending) (listed' : Vec ℕ) (timed' : Timed) → IsListed (set events e p) listed' → timed' ≡ with_pending timed e p → IsTied (set events e p) listed' timed' n
  tied_changed p listed' timed' deltas time = record {
    deltas = deltas;
    times = λ q. ap (λ x. maps.get x.times q) time ∙ ap (λ m. maps.get m q) (times-with_pending timed e p) ∙ at q;
    room =
        let spare = spare_then timed e p (maps.contains_key timed.times e) refl some_room in
        let had : one_if (maps.contains_key timed.times e) ≡ one_if (is_timed (pending_at events e)) = ap one_if has_time in
        let same = length-set events e p in
        let room = tied.room in
        omega (arith, ap (λ x. x.spare) time, spare, had, counted p, same, room);
    size = tied.size ∙ sym (length-set events e p);
  }
    where
      at : (q : ℕ) → maps.get (updated timed.times e (time_of p)) q ≡ time_of (pending_at (set events e p) q)
      at q = ⊎_elim
          (λ same. get-updated_same timed.times e (time_of p) q same
          ∙ ap time_of (sym (ap (λ k. get_or (set events e p) k pending.Nothing) same ∙ get_or-set_same events e p pending.Nothing h)))
          (λ apart. get-updated_other timed.times e (time_of p) q apart ∙ tied.times q ∙ ap time_of (sym (get_or-set_other events e q p pending.Nothing apart)))
          (cases_eq q e)

-- an event that has no time is as it is without one
pub without_none : (q : Timed) (e : ℕ) → maps.contains_key q.times e ≡ false → q ≡ without q e
without_none q e none = λ i. record { times = same i; spare = spare i }
  where
    no_time : (o : Option Time) → is_some o ≡ false → o ≡ None
    no_time None h = refl
    no_time (Some t) h = absurd (true≢false h)

    at : (p : ℕ) → maps.get q.times p ≡ cond (p == e) None (maps.get q.times p)
    at p = ⊎_elim
        (λ same. ap (λ k. maps.get q.times k) same ∙ no_time (maps.get q.times e) none ∙ sym (ap (λ b. cond b None (maps.get q.times p)) (eq-eqb p e same)))
        (λ apart. sym (ap (λ b. cond b None (maps.get q.times p)) (ne_eqb p e apart)))
        (cases_eq p e)

    same : q.times ≡ maps.remove q.times e
    same = same_gets (maps.remove q.times e) q.times (λ p. at p ∙ sym (get-removed q.times e p))

    spare : q.spare ≡ cond (maps.contains_key q.times e) (q.spare + 1) q.spare
    spare = ap (λ b. cond b (q.spare + 1) q.spare) (sym none)

-- ---- a notification that overrides, or not

pub overridden : (w : When) (p : Pending) → comes_first w p ≡ true → notified w p ≡ left_pending w
overridden w p is = ap (λ b. cond b (left_pending w) p) is

pub kept : (w : When) (p : Pending) → comes_first w p ≡ false → notified w p ≡ p
kept w p is = ap (λ b. cond b (left_pending w) p) is

pub nothing_is : (p : Pending) → is_nothing p ≡ true → p ≡ pending.Nothing
nothing_is pending.Nothing is = refl
nothing_is pending.Delta is = absurd (true≢false (sym is))
nothing_is (pending.At t) is = absurd (true≢false (sym is))

-- ---- at the start

nothing_first : (k e : ℕ) → pending_at (replicate k pending.Nothing) e ≡ pending.Nothing
nothing_first zero e = refl
nothing_first (suc k) zero = refl
nothing_first (suc k) (suc e) = nothing_first k e

pub tied_first : (n : ℕ) (listed : Vec ℕ) (timed : Timed) → listed.items ≡ [] → n ≤ vec_capacity listed → timed.times ≡ maps.empty → n ≤ timed.spare → IsTied (replicate n pending.Nothing) listed timed n
tied_first n listed timed none places empty room = record {
  deltas = record {
    each = λ q is. absurd (let h : pending.Nothing ≡ pending.Delta = sym (nothing_first n q) ∙ is in cc);
    below = All-same (λ q. q < length (replicate n pending.Nothing)) listed.items [] none (All-nil (λ q. q < length (replicate n pending.Nothing)));
    places = omega (arith, places, length-replicate n pending.Nothing);
  };
  times = λ e. ap (λ m. maps.get m e) empty ∙ maps.get-empty _ e ∙ ap time_of (sym (nothing_first n e));
  room = omega (arith, room, length-replicate n pending.Nothing);
  size = sym (length-replicate n pending.Nothing);
}
