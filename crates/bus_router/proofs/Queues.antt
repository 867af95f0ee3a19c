-- What waits is due or in the queue.
use Rattle.std.proofs.Common.{◌≡◌, ◌≢◌, ℕ, zero, suc, ◌+◌, ◌<◌, ◌≤◌, ◌⊎◌, Bool, true, false, cond, List, [], ◌∷◌, length, Option, Some, None, refl, sym, ap, ◌∙◌, subst, inl, inr, arith, true≢false, eq-eqb, ne_eqb}
use Rattle.std.specs.Prelude.{not, slice_index, count_by, ◌==◌}
use Rattle.std.specs.List.Sorted.{IsPermutation, IsNonDecreasing}
use Rattle.std.specs.Ordering.{nat_cmp}
use Rattle.std.specs.FinMap as map
use Rattle.std.specs.FinMap.{nat_cmp-IsAntisymmetric}
use Rattle.std.proofs.lemmas.Bool.{cases_eq}
use Rattle.std.proofs.lemmas.List.Sums.{sum_by-cons}
use Rattle.std.proofs.lemmas.List.Sorted.{sum_by-IsPermutation}
use Rattle.numbered_slots.proofs.MapLemmas.{get-insert_same, get-insert_other}
use Rattle.timed_queue.specs.SimTime.declared.moments.Time.{Time}
use Rattle.timed_queue.specs.Timed.{is_due, is_at, IsEarliest, AddsEach}
use Rattle.traffic_file.specs.declared.Bus.{Bus}
use Rattle.bus_router.specs.declared.rows.BusRow.{BusRow}
use Rattle.bus_router.specs.Times.{Table, Earlier}
use Rattle.bus_router.specs.Making.{IsWaiting, IsRest, Times, Queued, Due, Queues}
use Rattle.bus_router.proofs.Next.{waits_before, waits_too}

abbrev pub time_of : ℕ → Time
time_of n = record { 0 = n }

-- ---- the row of k changes

module _ (bus : Bus) (one other : Table) (k : ℕ) (same : (m : ℕ) → m ≢ k → other m ≡ one m) (idle : (one k).r ≡ 0) where
  queued_too : (now m : ℕ) (t : Time) → m ≢ k → Queued one now m t → Queued other now m t
  queued_too now m t off is = record {
    waiting = waits_too bus one other k same idle m off is.waiting;
    arrives = is.arrives ∙ sym (ap (λ (row : BusRow). row.a) (same m off));
    later = is.later;
  }

  due_too : (now m : ℕ) → m ≢ k → Due one now m → Due other now m
  due_too now m off is = record { waiting = waits_too bus one other k same idle m off is.waiting; arrives = ap (λ (row : BusRow). row.a) (same m off) ∙ is.arrives }

  -- it waits behind what is due
  pub queues_waiting : (times : Times) (due : List ℕ) (place now : ℕ) → (one k).a ≡ 0 → IsWaiting other k → now < (other k).a
      → Queues one times due place now (λ m. ⊥) → Queues other (map.insert times k (time_of (other k).a)) due place now (λ m. ⊥)
  queues_waiting times due place now fresh waits later queues = record {
    queued = λ m t is. elim (cases_eq m k) [
      | inl here ↦ subst (λ p. Queued other now p t) (sym here) (its t (sym (get-insert_same times k (time_of (other k).a) m here) ∙ is))
      | inr off ↦ queued_too now m t off (queues.queued m t (sym (get-insert_other times k (time_of (other k).a) m off) ∙ is))
    ];
    resting = λ m rest. due_too now m (off_k m rest) (queues.resting m rest);
    unserved = λ m rest never. never;
    all = λ m is. elim (cases_eq m k) [
      | inl here ↦ inr (inr (get-insert_same times k (time_of (other k).a) m here ∙ ap (λ p. Some (time_of (other p).a)) (sym here)))
      | inr off ↦ from_all m off (queues.all m (waits_before bus one other k same idle m off is))
    ];
    rising = queues.rising;
  }
    where
      its : (t : Time) → Some (time_of (other k).a) ≡ Some t → Queued other now k t
      its t is = let same_time : time_of (other k).a ≡ t = cc in record {
        waiting = waits;
        arrives = ap (λ (u : Time). u.0) (sym same_time);
        later = subst (λ (u : Time). now < u.0) same_time later;
      }

      off_k : (m : ℕ) → IsRest due place m → m ≢ k
      off_k m rest here = let row : (one m).a ≡ (one k).a = ap (λ p. (one p).a) here in let begun = (queues.resting m rest).waiting.begun in omega arith

      from_all : (m : ℕ) → m ≢ k → ⊥ ⊎ (IsRest due place m ⊎ (map.get times m ≡ Some (time_of (one m).a)))
          → ⊥ ⊎ (IsRest due place m ⊎ (map.get (map.insert times k (time_of (other k).a)) m ≡ Some (time_of (other m).a)))
      from_all m off (inl never) = inl never
      from_all m off (inr (inl rest)) = inr (inl rest)
      from_all m off (inr (inr is)) = inr (inr (get-insert_other times k (time_of (other k).a) m off ∙ is ∙ ap (λ (row : BusRow). Some (time_of row.a)) (sym (same m off))))

  -- it neither waited nor waits
  pub queues_aside : (times : Times) (due : List ℕ) (place now : ℕ) → (one k).a ≡ 0 → (IsWaiting other k → ⊥)
      → Queues one times due place now (λ m. ⊥) → Queues other times due place now (λ m. ⊥)
  queues_aside times due place now fresh over queues = record {
    queued = λ m t is. queued_too now m t (off_k m (queues.queued m t is).waiting) (queues.queued m t is);
    resting = λ m rest. due_too now m (off_k m (queues.resting m rest).waiting) (queues.resting m rest);
    unserved = λ m rest never. never;
    all = λ m is. elim (cases_eq m k) [
      | inl here ↦ absurd (over (subst (IsWaiting other) here is))
      | inr off ↦ from_all m off (queues.all m (waits_before bus one other k same idle m off is))
    ];
    rising = queues.rising;
  }
    where
      off_k : (m : ℕ) → IsWaiting one m → m ≢ k
      off_k m waits here = let row : (one m).a ≡ (one k).a = ap (λ p. (one p).a) here in let begun = waits.begun in omega arith

      from_all : (m : ℕ) → m ≢ k → ⊥ ⊎ (IsRest due place m ⊎ (map.get times m ≡ Some (time_of (one m).a)))
          → ⊥ ⊎ (IsRest due place m ⊎ (map.get times m ≡ Some (time_of (other m).a)))
      from_all m off (inl never) = inl never
      from_all m off (inr (inl rest)) = inr (inl rest)
      from_all m off (inr (inr is)) = inr (inr (is ∙ ap (λ (row : BusRow). Some (time_of row.a)) (sym (same m off))))

  -- it was being served, and is done
  pub queues_served : (times : Times) (due : List ℕ) (place now : ℕ) → Due one now k → (IsWaiting other k → ⊥)
      → Queues one times due place now (λ m. m ≡ k) → Queues other times due place now (λ m. ⊥)
  queues_served times due place now is_due over queues = record {
    queued = λ m t is. queued_too now m t (off_k m t (queues.queued m t is)) (queues.queued m t is);
    resting = λ m rest. due_too now m (queues.unserved m rest) (queues.resting m rest);
    unserved = λ m rest never. never;
    all = λ m is. elim (cases_eq m k) [
      | inl here ↦ absurd (over (subst (IsWaiting other) here is))
      | inr off ↦ from_all m off (queues.all m (waits_before bus one other k same idle m off is))
    ];
    rising = queues.rising;
  }
    where
      off_k : (m : ℕ) (t : Time) → Queued one now m t → m ≢ k
      off_k m t is here =
          let row : (one m).a ≡ (one k).a = ap (λ p. (one p).a) here in
          let arrives = is.arrives in
          let later = is.later in
          let here_now = is_due.arrives in
          omega arith

      from_all : (m : ℕ) → m ≢ k → (m ≡ k) ⊎ (IsRest due place m ⊎ (map.get times m ≡ Some (time_of (one m).a)))
          → ⊥ ⊎ (IsRest due place m ⊎ (map.get times m ≡ Some (time_of (other m).a)))
      from_all m off (inl here) = absurd (off here)
      from_all m off (inr (inl rest)) = inr (inl rest)
      from_all m off (inr (inr is)) = inr (inr (is ∙ ap (λ (row : BusRow). Some (time_of row.a)) (sym (same m off))))

-- ---- the next of what is due

module _ (table : Table) (times : Times) (due : List ℕ) (place now k : ℕ) (there : place < length due) (here : slice_index due place ≡ k)
    (queues : Queues table times due place now (λ m. ⊥)) where
  it_rests : IsRest due place k
  it_rests = record { at = place; from = omega arith; below = there; is = here }

  pub next_due : Due table now k
  next_due = queues.resting k it_rests

  still_rests : (m : ℕ) → IsRest due (place + 1) m → IsRest due place m
  still_rests m rest = record { at = rest.at; from = let from = rest.from in omega arith; below = rest.below; is = rest.is }

  split : (m : ℕ) → IsRest due place m → (m ≡ k) ⊎ IsRest due (place + 1) m
  split m rest = elim (cases_eq rest.at place) [
    | inl same ↦ inl (sym rest.is ∙ ap (slice_index due) same ∙ here)
    | inr apart ↦ inr (record { at = rest.at; from = let from = rest.from in omega arith; below = rest.below; is = rest.is })
  ]

  greater : (m : ℕ) → IsRest due (place + 1) m → k < m
  greater m rest =
      let rises = queues.rising place rest.at (let from = rest.from in omega arith) rest.below in
      let is = rest.is in
      omega arith

  pub queues_next : Queues table times due (place + 1) now (λ m. m ≡ k)
  queues_next = record {
    queued = queues.queued;
    resting = λ m rest. queues.resting m (still_rests m rest);
    unserved = λ m rest is. let more = greater m rest in omega arith;
    all = λ m is. by_case m (queues.all m is);
    rising = queues.rising;
  }
    where
      by_rest : (m : ℕ) → (m ≡ k) ⊎ IsRest due (place + 1) m → (m ≡ k) ⊎ (IsRest due (place + 1) m ⊎ (map.get times m ≡ Some (time_of (table m).a)))
      by_rest m (inl is) = inl is
      by_rest m (inr rest) = inr (inl rest)

      by_case : (m : ℕ) → ⊥ ⊎ (IsRest due place m ⊎ (map.get times m ≡ Some (time_of (table m).a)))
          → (m ≡ k) ⊎ (IsRest due (place + 1) m ⊎ (map.get times m ≡ Some (time_of (table m).a)))
      by_case m (inl never) = absurd never
      by_case m (inr (inl rest)) = by_rest m (split m rest)
      by_case m (inr (inr is)) = inr (inr is)

  pub next_least : (m : ℕ) → IsWaiting table m → m ≢ k → Earlier table k m
  next_least m is off = by_case (queues_next.all m is)
    where
      arrived : (table k).a ≡ now
      arrived = next_due.arrives

      by_case : (m ≡ k) ⊎ (IsRest due (place + 1) m ⊎ (map.get times m ≡ Some (time_of (table m).a))) → Earlier table k m
      by_case (inl same) = absurd (off same)
      by_case (inr (inl rest)) = let at = (queues.resting m (still_rests m rest)).arrives in let arrived_now = arrived in inr (omega arith, greater m rest)
      by_case (inr (inr queued)) = let later = (queues.queued m (time_of (table m).a) queued).later in let arrived_now = arrived in inl (omega arith)

-- ---- what is due at the earliest time

-- a number that stands at a place is counted
pub counted_once : (xs : List ℕ) (i x : ℕ) → i < length xs → slice_index xs i ≡ x → 1 ≤ count_by (λ y. y == x) xs
counted_once [] i x below is = absurd (omega arith)
counted_once (y ∷ ys) zero x below is =
    let sums = sum_by-cons (λ (z : ℕ). cond (z == x) 1 0) y ys in
    let one : cond {A = ℕ} (y == x) 1 0 ≡ 1 = ap (λ b. cond {A = ℕ} b 1 0) (eq-eqb y x is) in
    omega arith
counted_once (y ∷ ys) (suc i) x below is =
    let sums = sum_by-cons (λ (z : ℕ). cond (z == x) 1 0) y ys in
    let rest = counted_once ys i x (omega arith) is in
    omega arith

-- and one that stands at two places is counted twice
pub counted_twice : (xs : List ℕ) (i j x : ℕ) → i < j → j < length xs → slice_index xs i ≡ x → slice_index xs j ≡ x → 2 ≤ count_by (λ y. y == x) xs
counted_twice [] i j x less below is also = absurd (omega arith)
counted_twice (y ∷ ys) i zero x less below is also = absurd (omega arith)
counted_twice (y ∷ ys) zero (suc j) x less below is also =
    let sums = sum_by-cons (λ (z : ℕ). cond (z == x) 1 0) y ys in
    let one : cond {A = ℕ} (y == x) 1 0 ≡ 1 = ap (λ b. cond {A = ℕ} b 1 0) (eq-eqb y x is) in
    let rest = counted_once ys j x (omega arith) also in
    omega arith
counted_twice (y ∷ ys) (suc i) (suc j) x less below is also =
    let sums = sum_by-cons (λ (z : ℕ). cond (z == x) 1 0) y ys in
    let rest = counted_twice ys i j x (omega arith) (omega arith) is also in
    omega arith

-- one that is counted stands at a place
pub place_of_counted : (xs : List ℕ) (x : ℕ) → 1 ≤ count_by (λ y. y == x) xs → IsRest xs 0 x
place_of_counted [] x some = absurd (omega arith)
place_of_counted (y ∷ ys) x some = elim (cases_eq y x) [
  | inl is ↦ record { at = 0; from = omega arith; below = omega arith; is = is }
  | inr off ↦
      let sums = sum_by-cons (λ (z : ℕ). cond (z == x) 1 0) y ys in
      let none : cond {A = ℕ} (y == x) 1 0 ≡ 0 = ap (λ b. cond {A = ℕ} b 1 0) (ne_eqb y x off) in
      behind (place_of_counted ys x (omega arith))
]
  where
    behind : IsRest ys 0 x → IsRest (y ∷ ys) 0 x
    behind rest = record { at = suc rest.at; from = omega arith; below = let below = rest.below in omega arith; is = rest.is }

pub due_is : (t : Time) (o : Option Time) → is_at t o ≡ true → (u : Time) × (o ≡ Some u) × (u.0 ≡ t.0)
due_is t None is = absurd (true≢false (sym is))
due_is t (Some u) is = elim (cases_eq u.0 t.0) [
  | inl same ↦ (u, refl, same)
  | inr off ↦ absurd (true≢false (sym is ∙ ne_eqb u.0 t.0 off))
]

module _ (table : Table) (times : Times) (old : List ℕ) (place now : ℕ) (t : Time) (new due : List ℕ) (past : length old ≤ place) (earliest : IsEarliest times t)
    (taken : AddsEach [] new (is_due times t)) (sorted : IsPermutation new due) (rises : IsNonDecreasing due) (queues : Queues table times old place now (λ m. ⊥)) where
  counted : (p : ℕ) → count_by (λ x. x == p) due ≡ cond {A = ℕ} (is_due times t p) 1 0
  counted p = sum_by-IsPermutation (λ (x : ℕ). cond (x == p) 1 0) new due sorted ∙ ap (count_by (λ x. x == p)) taken.behind ∙ taken.once p

  pub time_goes_on : now < t.0
  time_goes_on = (queues.queued earliest.held.0 t earliest.held.1).later

  abbrev left : Times
  left = map.retain_keys times (λ name. not (is_due times t name))

  left_at : (m : ℕ) → map.get left m ≡ cond (not (is_due times t m)) (map.get times m) None
  left_at m = map.get-retain_keys times (λ name. not (is_due times t name)) m (λ x tied. ap (λ name. not (is_due times t name)) (sym (nat_cmp-IsAntisymmetric m x tied)))

  was_due : (m : ℕ) → IsRest due 0 m → is_due times t m ≡ true
  was_due m rest = by_test (is_due times t m) refl
    where
      by_test : (b : Bool) → is_due times t m ≡ b → is_due times t m ≡ true
      by_test true is = is
      by_test false is =
          let once = counted_once due rest.at m rest.below rest.is in
          let none : count_by (λ x. x == m) due ≡ 0 = counted m ∙ ap (λ b. cond {A = ℕ} b 1 0) is in
          absurd (omega arith)

  pub queues_taken : Queues table left due 0 t.0 (λ m. ⊥)
  queues_taken = record {
    queued = λ m u is. by_test m u is (is_due times t m) refl;
    resting = λ m rest. its_due m (due_is t (map.get times m) (was_due m rest));
    unserved = λ m rest never. never;
    all = λ m is. by_case m (queues.all m is);
    rising = λ p q less below. elim (cases_eq (slice_index due p) (slice_index due q)) [
      | inl same ↦
          let twice = counted_twice due p q (slice_index due q) less below same refl in
          let once = counted (slice_index due q) in
          let few = at_most (is_due times t (slice_index due q)) in
          absurd (omega arith)
      | inr off ↦ let order = rises p q 0 (omega arith) below in omega arith
    ];
  }
    where
      at_most : (b : Bool) → cond {A = ℕ} b 1 0 ≤ 1
      at_most true = omega arith
      at_most false = omega arith

      later : (m : ℕ) (u : Time) → map.get times m ≡ Some u → is_due times t m ≡ false → t.0 < u.0
      later m u is not_due = elim (cases_eq u.0 t.0) [
        | inl same ↦ absurd (true≢false (sym (ap (is_at t) is ∙ eq-eqb u.0 t.0 same) ∙ not_due))
        | inr off ↦ let least = earliest.least m u is in omega arith
      ]

      by_test : (m : ℕ) (u : Time) → map.get left m ≡ Some u → (b : Bool) → is_due times t m ≡ b → Queued table t.0 m u
      by_test m u is true its = let gone : None ≡ Some u = sym (left_at m ∙ ap (λ b. cond (not b) (map.get times m) None) its) ∙ is in cc
      by_test m u is false its =
          let stays : map.get times m ≡ Some u = sym (left_at m ∙ ap (λ b. cond (not b) (map.get times m) None) its) ∙ is in
          let was = queues.queued m u stays in
          record { waiting = was.waiting; arrives = was.arrives; later = later m u stays its }

      its_due : (m : ℕ) → (u : Time) × (map.get times m ≡ Some u) × (u.0 ≡ t.0) → Due table t.0 m
      its_due m found = let was = queues.queued m found.0 found.1 in record { waiting = was.waiting; arrives = sym was.arrives ∙ found.2 }

      by_time : (m : ℕ) → map.get times m ≡ Some (time_of (table m).a) → (b : Bool) → is_due times t m ≡ b
          → ⊥ ⊎ (IsRest due 0 m ⊎ (map.get left m ≡ Some (time_of (table m).a)))
      by_time m is true its = let one : count_by (λ x. x == m) due ≡ 1 = counted m ∙ ap (λ b. cond {A = ℕ} b 1 0) its in inr (inl (place_of_counted due m (omega arith)))
      by_time m is false its = inr (inr (left_at m ∙ ap (λ b. cond (not b) (map.get times m) None) its ∙ is))

      by_case : (m : ℕ) → ⊥ ⊎ (IsRest old place m ⊎ (map.get times m ≡ Some (time_of (table m).a)))
          → ⊥ ⊎ (IsRest due 0 m ⊎ (map.get left m ≡ Some (time_of (table m).a)))
      by_case m (inl never) = absurd never
      by_case m (inr (inl rest)) = let from = rest.from in let below = rest.below in absurd (omega arith)
      by_case m (inr (inr is)) = by_time m is (is_due times t m) refl

-- where nothing is due and nothing queues, nothing waits
pub none_waits : (table : Table) (times : Times) (due : List ℕ) (place now : ℕ) → length due ≤ place → times ≡ map.empty → Queues table times due place now (λ m. ⊥)
    → (k : ℕ) → IsWaiting table k → ⊥
none_waits table times due place now past empty queues k waits = by_case (queues.all k waits)
  where
    by_case : ⊥ ⊎ (IsRest due place k ⊎ (map.get times k ≡ Some (time_of (table k).a))) → ⊥
    by_case (inl never) = never
    by_case (inr (inl rest)) = let from = rest.from in let below = rest.below in omega arith
    by_case (inr (inr is)) = let none : None ≡ Some (time_of (table k).a) = sym (ap (λ (m : Times). map.get m k) empty ∙ map.get-empty nat_cmp k) ∙ is in cc
