-- What a plan keeps, from the empty one to the one whose rows are the table.
use Rattle.std.proofs.Common.{◌≡◌, ℕ, ◌+◌, ◌<◌, ◌≤◌, ◌⊎◌, List, [], length, Some, None, refl, sym, ap, ◌∙◌, subst, inl, inr, arith}
use Rattle.std.specs.Prelude.{replicate, slice_index}
use Rattle.std.specs.List.Sorted.{IsPermutation, IsNonDecreasing}
use Rattle.std.specs.Ordering.{nat_cmp}
use Rattle.std.specs.FinMap as map
use Rattle.std.proofs.lemmas.Bool.{cases_lt}
use Rattle.std.proofs.lemmas.List.{get_or_past, get_or-replicate, length-replicate}
use Rattle.timed_queue.specs.SimTime.declared.moments.Time.{Time}
use Rattle.timed_queue.specs.Timed.{Timed, is_due, IsEarliest, AddsEach, without_due}
use Rattle.traffic_file.specs.declared.Bus.{Bus}
use Rattle.traffic_file.specs.Traffic.{initiator_of, CanRun}
use Rattle.bus_router.specs.declared.rows.BusRow.{BusRow}
use Rattle.bus_router.specs.Times.{row_at, IsTableOf}
use Rattle.bus_router.specs.Making.{IsDone, IsWaiting, IsBehindWaiting, Making, Serving, Returning}
use Rattle.bus_router.proofs.Sofar.{timed_at_last}
use Rattle.bus_router.proofs.Bounds.{no_row}
use Rattle.bus_router.proofs.Queues.{time_goes_on, queues_taken, queues_next, next_due, next_least, none_waits}

-- ---- nothing has begun

zero_row : (n k : ℕ) → row_at (replicate n no_row) k ≡ no_row
zero_row n k = elim (cases_lt k n) [
  | inl there ↦ get_or-replicate n k no_row no_row there
  | inr past ↦ get_or_past (replicate n no_row) k no_row (let many = length-replicate n no_row in omega arith)
]

zero_end : (n k : ℕ) → slice_index (replicate n 0) k ≡ 0
zero_end n k = elim (cases_lt k n) [
  | inl there ↦ get_or-replicate n k 0 0 there
  | inr past ↦ get_or_past (replicate n 0) k 0 (let many : length (replicate {A = ℕ} n 0) ≡ n = length-replicate n 0 in omega arith)
]

pub empty_making : (bus : Bus) (queue : Timed) → queue.times ≡ map.empty → length bus.lines ≤ queue.spare
    → Making bus (replicate (length bus.lines) no_row) (replicate (length bus.targets) 0) queue [] 0 0 0
empty_making bus queue empty room = record {
  parts = record {
    many = length-replicate (length bus.lines) no_row;
    homes = length-replicate (length bus.targets) 0;
    made = record {
      timed = record {
        closed = λ j k is. absurd (none k is);
        rises = λ k is. absurd (none k is);
        begins = λ k is. absurd (none k is);
        goes_on = λ j k is. absurd (none k is);
        direct = λ k is. absurd (none k is);
        at_once = λ k is. absurd (none k is);
        arrives = λ k is. absurd (none k is);
        nowhere = λ k is. absurd (none k is);
        alone = λ home k at. absurd (none k at.there);
        behind = λ home j k at. absurd (none k at.there);
        served = λ home k at. absurd (none k at.there);
      };
      waiting = λ k is. absurd (no_wait k is);
      order = λ m k is. absurd (none m is);
      reached = λ m is. absurd (none m is);
      kept = λ home there. inl (λ m at. none m at.there, zero_end (length bus.targets) home);
    };
    bounded = record {
      back = λ k. let zero_is = ap (λ (row : BusRow). row.r) (zero_row (length bus.lines) k) in omega arith;
      arrived = λ k. let zero_is = ap (λ (row : BusRow). row.a) (zero_row (length bus.lines) k) in omega arith;
    };
    room = omega arith;
  };
  settled = λ i before. absurd (omega arith);
  fresh = λ k there from. record {
    a = ap (λ (row : BusRow). row.a) (zero_row (length bus.lines) k);
    r = ap (λ (row : BusRow). row.r) (zero_row (length bus.lines) k);
  };
  queues = record {
    queued = λ k t is. absurd (no_time k t is);
    resting = λ k rest. let below = rest.below in absurd (omega arith);
    unserved = λ k rest no. no;
    all = λ k is. absurd (no_wait k is);
    rising = λ p q less below. absurd (omega arith);
  };
}
  where
    none : (k : ℕ) → IsDone (row_at (replicate (length bus.lines) no_row)) k → ⊥
    none k is = let zero_is = ap (λ (row : BusRow). row.r) (zero_row (length bus.lines) k) in omega arith

    no_wait : (k : ℕ) → IsWaiting (row_at (replicate (length bus.lines) no_row)) k → ⊥
    no_wait k is = let zero_is = ap (λ (row : BusRow). row.a) (zero_row (length bus.lines) k) in let begun = is.begun in omega arith

    no_time : (k : ℕ) (t : Time) → map.get queue.times k ≡ Some t → ⊥
    no_time k t is = let gone : None ≡ Some t = sym (ap (λ (m : map.FinMap nat_cmp Time). map.get m k) empty ∙ map.get-empty nat_cmp k) ∙ is in cc

-- ---- the first access of an initiator

pub begins_first : (bus : Bus) (rows : List BusRow) (busy : List ℕ) (queue : Timed) (due : List ℕ) (place now i : ℕ) → now ≡ 0
    → Making bus rows busy queue due place now i → Returning bus rows busy queue due place now (i + 1) i 0 0
begins_first bus rows busy queue due place now i at_zero it = record {
  parts = it.parts;
  settled = λ other before off. it.settled other (omega arith);
  fresh = λ k there past. it.fresh k there (omega arith);
  before = omega arith;
  queues = it.queues;
  follows = record {
    past = λ j less. absurd (omega arith);
    fresh = λ j _ there is. it.fresh j there (omega arith);
    none = λ _. refl;
    last = λ j less. absurd (omega arith);
  };
  later = omega arith;
  below = omega arith;
}

-- ---- the next that is served

module _ (bus : Bus) (rows : List BusRow) (busy : List ℕ) (queue : Timed) (due : List ℕ) (place now from : ℕ) (it : Making bus rows busy queue due place now from) where
  pub making_takes : (t : Time) (added new : List ℕ) → length due ≤ place → IsEarliest queue.times t → AddsEach [] added (is_due queue.times t) → IsPermutation added new → IsNonDecreasing new
      → Making bus rows busy (without_due queue t) new 0 t.0 from
  making_takes t added new past earliest taken sorted rises = record {
    parts = record {
      many = it.parts.many;
      homes = it.parts.homes;
      made = record {
        timed = it.parts.made.timed;
        waiting = it.parts.made.waiting;
        order = it.parts.made.order;
        reached = λ m is routed.
            let reached = it.parts.made.reached m is routed in
            let goes_on = time_goes_on (row_at rows) queue.times due place now t added new past earliest taken sorted rises it.queues in
            omega arith;
        kept = it.parts.made.kept;
      };
      bounded = it.parts.bounded;
      room = let room = it.parts.room in omega arith;
    };
    settled = it.settled;
    fresh = it.fresh;
    queues = queues_taken (row_at rows) queue.times due place now t added new past earliest taken sorted rises it.queues;
  }

  pub making_serves : (k : ℕ) → place < length due → slice_index due place ≡ k → Serving bus rows busy queue due (place + 1) now from k
  making_serves k there here = record {
    parts = it.parts;
    settled = it.settled;
    fresh = it.fresh;
    queues = queues_next (row_at rows) queue.times due place now k there here it.queues;
    is_due = next_due (row_at rows) queue.times due place now k there here it.queues;
    least = next_least (row_at rows) queue.times due place now k there here it.queues;
  }

  pub all_are_back : length due ≤ place → queue.times ≡ map.empty → (k : ℕ) → k < length bus.lines → initiator_of bus k < from → IsDone (row_at rows) k
  all_are_back past empty k there before = by_case (it.settled (initiator_of bus k) before k there refl)
    where
      waits : (m : ℕ) → IsWaiting (row_at rows) m → ⊥
      waits = none_waits (row_at rows) queue.times due place now past empty it.queues

      by_case : IsDone (row_at rows) k ⊎ (IsWaiting (row_at rows) k ⊎ IsBehindWaiting bus (row_at rows) k) → IsDone (row_at rows) k
      by_case (inl done) = done
      by_case (inr (inl here)) = absurd (waits k here)
      by_case (inr (inr behind)) = absurd (waits behind.0 behind.3)

  -- once all are back the rows are the table
  pub table_at_last : CanRun bus → ((k : ℕ) → k < length bus.lines → initiator_of bus k < from → IsDone (row_at rows) k) → from ≡ length bus.initiators → IsTableOf bus rows
  table_at_last can over all = record {
    many = it.parts.many;
    timed = timed_at_last bus (IsDone (row_at rows)) (row_at rows) (λ k there. over k there (let its = can.initiators k there in omega arith)) only it.parts.made.timed;
  }
    where
      only : (k : ℕ) → IsDone (row_at rows) k → k < length bus.lines
      only k is = elim (cases_lt k (length rows)) [
        | inl there ↦ let many = it.parts.many in omega arith
        | inr past ↦ absurd (let none = ap (λ (row : BusRow). row.r) (get_or_past rows k no_row past) in omega arith)
      ]

-- ---- the same parts under other names

pub same_making : (bus : Bus) (rows : List BusRow) (busy busy' : List ℕ) (queue queue' : Timed) (due due' : List ℕ) (place place' now now' from : ℕ)
    → busy' ≡ busy → queue' ≡ queue → due' ≡ due → place' ≡ place → now' ≡ now
    → Making bus rows busy queue due place now from → Making bus rows busy' queue' due' place' now' from
same_making bus rows busy busy' queue queue' due due' place place' now now' from b q d p n =
    subst (λ (t : List ℕ × (Timed × (List ℕ × (ℕ × ℕ)))). Making bus rows t.0 t.1.0 t.1.1.0 t.1.1.1.0 t.1.1.1.1 from) (λ i. (sym b i, (sym q i, (sym d i, (sym p i, sym n i)))))
