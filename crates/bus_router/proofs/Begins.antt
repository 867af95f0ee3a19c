-- The next access of an initiator begins: it waits, or is done at once.
use Rattle.std.proofs.Common.{◌≡◌, ◌≢◌, ℕ, ◌+◌, ◌-◌, ◌^◌, ◌<◌, ◌≤◌, ◌⊎◌, Bool, true, false, List, length, refl, sym, ap, ◌∙◌, subst, inl, inr, arith, true≢false}
use Rattle.std.specs.Prelude.{max, slice_set, if◌then◌else◌}
use Rattle.std.specs.FinMap as map
use Rattle.std.proofs.lemmas.Bool.{cases_eq, cases_order}
use Rattle.std.proofs.lemmas.List.{length-set}
use Rattle.timed_queue.specs.Timed.{Timed, with_time}
use Rattle.traffic_file.specs.declared.Bus.{Bus}
use Rattle.traffic_file.specs.Traffic.{line_at, initiator_of, CanRun}
use Rattle.bus_router.specs.declared.rows.BusRow.{BusRow}
use Rattle.bus_router.specs.Times.{Table, row_at, IsHeld, IsAtOnce}
use Rattle.bus_router.specs.TableSofar.{Rises, Fits}
use Rattle.bus_router.specs.Making.{IsDone, IsWaiting, IsFresh, IsBegun, IsSettled, Follows, Queues, Making, Returning, done_count, limit, waiting_row, direct_row}
use Rattle.bus_router.specs.Holding.{Premises}
use Rattle.bus_router.proofs.Orders.{LastAt, last_at}
use Rattle.bus_router.proofs.Sofar.{comes_back}
use Rattle.bus_router.proofs.Next.{row_of_done, done_too, held_before, held_too}
use Rattle.bus_router.proofs.Made.{made_waiting, made_direct, settled_too, fresh_too, settled_waiting, follows_done, follows_skip, settled_at_last, first_begin, next_begin}
use Rattle.bus_router.proofs.Queues.{time_of, queues_waiting, queues_aside}
use Rattle.bus_router.proofs.Bounds.{few_begun, few_done, at_k, at_other, done_same, done_more, begun_more, bounded_set}

module _ (bus : Bus) (can : CanRun bus) (rows : List BusRow) (busy : List ℕ) (queue : Timed) (due : List ℕ) (place now from i k back : ℕ)
    (it : Returning bus rows busy queue due place now from i k back) where
  pub returning_skips : initiator_of bus k ≢ i → Returning bus rows busy queue due place now from i (k + 1) back
  returning_skips away = record {
    parts = it.parts;
    settled = it.settled;
    fresh = it.fresh;
    before = it.before;
    queues = it.queues;
    follows = follows_skip bus (row_at rows) i k back away it.follows;
    later = it.later;
    below = it.below;
  }

  pub returning_ends : length bus.lines ≡ k → Making bus rows busy queue due place now from
  returning_ends at_end = record {
    parts = it.parts;
    settled = λ other before. elim (cases_eq other i) [
      | inl same ↦ subst (λ n. IsSettled bus (row_at rows) n) (sym same) (settled_at_last bus (row_at rows) i back (subst (λ n. Follows bus (row_at rows) i n back) (sym at_end) it.follows))
      | inr off ↦ it.settled other before off
    ];
    fresh = it.fresh;
    queues = it.queues;
  }

  module _ (there : k < length bus.lines) (its : initiator_of bus k ≡ i) where
    fresh : IsFresh (row_at rows) k
    fresh = it.follows.fresh k (omega arith) there its

    in_rows : k < length rows
    in_rows = let many = it.parts.many in omega arith

    closed : (j : ℕ) → j < k → initiator_of bus j ≡ initiator_of bus k → IsDone (row_at rows) j
    closed j less is = it.follows.past j less (is ∙ its)

    -- there is room in the queue
    pub room_to_wait : 0 < queue.spare
    room_to_wait =
        let more = begun_more rows k (waiting_row 1 1) in_rows fresh.a (omega arith) in
        let few = few_begun (slice_set rows k (waiting_row 1 1)) in
        let same : length (slice_set rows k (waiting_row 1 1)) ≡ length rows = length-set rows k (waiting_row 1 1) in
        let room = it.parts.room in
        let many = it.parts.many in
        omega arith

    module _ (b : ℕ) (begins : b ≡ max (line_at bus k).time back) where
      pub not_late : b < limit rows
      not_late = let below = it.below in let early = can.times k there in omega arith

      -- all that its initiator did is back by then
      all_back : (j : ℕ) → j < k → initiator_of bus j ≡ initiator_of bus k → (row_at rows j).r ≤ back
      all_back j less is = elim (last_at (initiator_of bus) i k) [
        | inl none ↦ absurd (none j less (is ∙ its))
        | inr last ↦ by_place last (cases_order j last.place)
      ]
        where
          by_place : (last : LastAt (initiator_of bus) i k) → (j ≡ last.place) ⊎ ((j < last.place) ⊎ (last.place < j)) → (row_at rows j).r ≤ back
          by_place last (inl here) =
              let same : (row_at rows j).r ≡ (row_at rows last.place).r = ap (λ p. (row_at rows p).r) here in
              let comes = it.follows.last last.place last.below last.is last.none_after in
              omega arith
          by_place last (inr (inl before)) =
              let done : IsDone (row_at rows) last.place = it.follows.past last.place last.below last.is in
              let came = comes_back bus (IsDone (row_at rows)) (row_at rows) it.parts.made.timed j last.place done before (is ∙ its ∙ sym last.is) in
              let rises = it.parts.made.timed.rises last.place done in
              let a = rises.arrives in let s = rises.waits in let e = rises.served in let r = rises.back in
              let comes = it.follows.last last.place last.below last.is last.none_after in
              omega arith
          by_place last (inr (inr after)) = absurd (last.none_after j after less (is ∙ its))

      pub premises : Premises bus (row_at rows) k b
      premises = record {
        timed = it.parts.made.timed;
        closed = closed;
        back = λ j less is. let before = all_back j less is in omega arith;
      }

      module _ (row : BusRow) (row_b : row.b ≡ b) where
        abbrev other : Table
        other = row_at (slice_set rows k row)

        at : other k ≡ row
        at = at_k rows k row in_rows

        same : (m : ℕ) → m ≢ k → other m ≡ row_at rows m
        same = at_other rows k row in_rows

        at_b : (other k).b ≡ b
        at_b = ap (λ (r : BusRow). r.b) at ∙ row_b

        past_same : (j : ℕ) → j < k → initiator_of bus j ≡ initiator_of bus k → (other j).r ≡ (row_at rows j).r
        past_same j less is = ap (λ (r : BusRow). r.r) (row_of_done bus (row_at rows) other k same fresh.r j (closed j less is))

      abbrev late_row : BusRow
      late_row = waiting_row b (b + bus.delay)

      abbrev early_row : BusRow
      early_row = direct_row b

      returning_waits_row : (free : IsHeld bus (row_at rows) k b → ⊥)
          → Making bus (slice_set rows k late_row) busy (with_time queue k (time_of (b + bus.delay))) due place now from
      returning_waits_row free = record {
        parts = record {
          many = length-set rows k late_row ∙ it.parts.many;
          homes = it.parts.homes;
          made = made_waiting bus (row_at rows) (other late_row refl) k (same late_row refl) fresh.r busy now it.parts.made begun (ap (λ (r : BusRow). r.r) (at late_row refl)) later;
          bounded =
              let still = done_same rows k late_row in_rows fresh.r refl in
              let takes = can.delay in
              let few = not_late in
              bounded_set rows k late_row in_rows it.parts.bounded (omega arith) (omega arith) (omega arith);
          room =
              let more = begun_more rows k late_row in_rows fresh.a (let takes = can.takes_time in omega arith) in
              let room = it.parts.room in
              let some = room_to_wait in
              let left = spare_left (map.contains_key queue.times k) in
              omega arith;
        };
        settled = λ j before. elim (cases_eq j i) [
          | inl here ↦ subst (λ n. IsSettled bus (other late_row refl) n) (sym here) (settled_waiting bus (row_at rows) (other late_row refl) k (same late_row refl) fresh.r i back its waits it.follows)
          | inr off ↦ settled_too bus (row_at rows) (other late_row refl) k (same late_row refl) fresh.r j (λ is. off (is ∙ its)) (it.settled j before off)
        ];
        fresh = fresh_too bus (row_at rows) (other late_row refl) k (same late_row refl) fresh.r from (let before = it.before in omega arith) it.fresh;
        queues = subst (λ n. Queues (other late_row refl) (map.insert queue.times k (time_of n)) due place now (λ m. ⊥)) at_a
            (queues_waiting bus (row_at rows) (other late_row refl) k (same late_row refl) fresh.r queue.times due place now fresh.a waits arrives_later it.queues);
      }
        where
          at_a : (other late_row refl k).a ≡ b + bus.delay
          at_a = ap (λ (r : BusRow). r.a) (at late_row refl)

          spare_left : (held : Bool) → queue.spare - 1 ≤ (if held then queue.spare else (queue.spare - 1))
          spare_left true = omega arith
          spare_left false = omega arith

          begun : IsBegun bus (other late_row refl) k
          begun = record {
            there = there;
            closed = λ j less is. done_too bus (row_at rows) (other late_row refl) k (same late_row refl) fresh.r j (closed j less is);
            begins = λ first. at_b late_row refl ∙ first_begin bus (row_at rows) i k back b its it.follows begins first;
            goes_on = λ j before. at_b late_row refl ∙ next_begin bus (row_at rows) i k back b its it.follows begins j before
                ∙ ap (λ n. max (line_at bus k).time n) (sym (past_same late_row refl j before.earlier before.same));
            routed = ap (λ (r : BusRow). r.direct) (at late_row refl);
            free = λ held. free (held_before bus (row_at rows) (other late_row refl) k (same late_row refl) fresh.r k closed b (subst (λ time. IsHeld bus (other late_row refl) k time) (at_b late_row refl) held));
            arrives = at_a ∙ ap (λ n. n + bus.delay) (sym (at_b late_row refl));
          }

          waits : IsWaiting (other late_row refl) k
          waits = record {
            begun = let is = at_a in let takes = can.takes_time in omega arith;
            idle = ap (λ (r : BusRow). r.r) (at late_row refl);
          }

          after_now : now < b + bus.delay
          after_now = let later = it.later in let takes = can.takes_time in omega arith

          arrives_later : now < (other late_row refl k).a
          arrives_later = let is = at_a in let after = after_now in omega arith

          later : (m : ℕ) → IsDone (row_at rows) m → (row_at rows m).direct ≡ false → (row_at rows m).a < (other late_row refl k).a
          later m is routed = let reached = it.parts.made.reached m is routed in let arrives = arrives_later in omega arith

      pub returning_waits : (free : IsHeld bus (row_at rows) k b → ⊥) (new : List BusRow) → new ≡ slice_set rows k (waiting_row b (b + bus.delay))
          → Making bus new busy (with_time queue k (time_of (b + bus.delay))) due place now from
      returning_waits free new is = subst (λ l. Making bus l busy (with_time queue k (time_of (b + bus.delay))) due place now from) (sym is) (returning_waits_row free)

      returning_direct_row : IsHeld bus (row_at rows) k b → Returning bus (slice_set rows k early_row) busy queue due place now from i (k + 1) b
      returning_direct_row held = record {
        parts = record {
          many = length-set rows k early_row ∙ it.parts.many;
          homes = it.parts.homes;
          made = made_direct bus (row_at rows) (other early_row refl) k (same early_row refl) fresh.r busy now it.parts.made fits at_direct is_done;
          bounded =
              let one = more in
              let few = not_late in
              bounded_set rows k early_row in_rows it.parts.bounded (omega arith) (omega arith) (omega arith);
          room = let begun = begun_more rows k early_row in_rows fresh.a some in let room = it.parts.room in omega arith;
        };
        settled = λ j before off. settled_too bus (row_at rows) (other early_row refl) k (same early_row refl) fresh.r j (λ is. off (is ∙ its)) (it.settled j before off);
        fresh = fresh_too bus (row_at rows) (other early_row refl) k (same early_row refl) fresh.r from (let before = it.before in omega arith) it.fresh;
        before = it.before;
        queues = queues_aside bus (row_at rows) (other early_row refl) k (same early_row refl) fresh.r queue.times due place now fresh.a (λ waits. let idle = waits.idle in let done = is_done in omega arith) it.queues;
        follows = follows_done bus (row_at rows) (other early_row refl) k (same early_row refl) fresh.r i b its is_done (ap (λ (r : BusRow). r.r) (at early_row refl)) it.follows.past
            (λ j after. it.follows.fresh j (omega arith));
        later = let later = it.later in omega arith;
        below = let one = more in let few = not_late in omega arith;
      }
        where
          some : 0 < b
          some = let granted = held.granted in let done = closed held.since granted.earlier granted.same in let back = granted.back in omega arith

          more : done_count (slice_set rows k early_row) ≡ done_count rows + 1
          more = done_more rows k early_row in_rows fresh.r some

          at_direct : (other early_row refl k).direct ≡ true
          at_direct = ap (λ (r : BusRow). r.direct) (at early_row refl)

          is_done : IsDone (other early_row refl) k
          is_done = subst (λ (r : BusRow). 0 < r.r) (sym (at early_row refl)) some

          fits : Fits bus (IsDone (row_at rows)) (other early_row refl) k
          fits = record {
            closed = closed;
            rises = subst Rises (sym (at early_row refl)) (record { arrives = omega arith; waits = omega arith; served = omega arith; back = omega arith });
            begins = λ first. at_b early_row refl ∙ first_begin bus (row_at rows) i k back b its it.follows begins first;
            goes_on = λ j before. at_b early_row refl ∙ next_begin bus (row_at rows) i k back b its it.follows begins j before
                ∙ ap (λ n. max (line_at bus k).time n) (sym (past_same early_row refl j before.earlier before.same));
            direct = (
              λ _. subst (λ time. IsHeld bus (other early_row refl) k time) (sym (at_b early_row refl)) (held_too bus (row_at rows) (other early_row refl) k (same early_row refl) fresh.r k closed b held),
              λ _. at_direct,
            );
            at_once = λ _. subst IsAtOnce (sym (at early_row refl)) (record { a = refl; s = refl; e = refl; r = refl });
            arrives = λ routed. absurd (true≢false (sym at_direct ∙ routed));
            nowhere = λ routed. absurd (true≢false (sym at_direct ∙ routed));
            alone = λ home home_is routed. absurd (true≢false (sym at_direct ∙ routed));
            behind = λ home j home_is routed. absurd (true≢false (sym at_direct ∙ routed));
            served = λ home home_is routed. absurd (true≢false (sym at_direct ∙ routed));
          }

      pub returning_direct : IsHeld bus (row_at rows) k b → (new : List BusRow) → new ≡ slice_set rows k (direct_row b) → Returning bus new busy queue due place now from i (k + 1) b
      returning_direct held new is = subst (λ l. Returning bus l busy queue due place now from i (k + 1) b) (sym is) (returning_direct_row held)

      pub waiting_count : (new : List BusRow) → new ≡ slice_set rows k late_row → done_count rows ≤ done_count new
      waiting_count new is =
          let same = done_same rows k late_row in_rows fresh.r refl in
          let moved : done_count new ≡ done_count (slice_set rows k late_row) = ap (λ l. done_count l) is in
          omega arith

      pub sum_fits : b + bus.delay < 2 ^ 64
      sum_fits =
          let low = not_late in
          let few = few_done rows in
          let many = it.parts.many in
          let lines = can.few_lines in
          let delay = can.delay in
          omega arith
