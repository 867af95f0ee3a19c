-- An access is served.
use Rattle.std.proofs.Common.{◌≡◌, ◌≢◌, ℕ, ◌+◌, ◌^◌, ◌<◌, ◌≤◌, ◌⊎◌, false, List, length, Option, Some, None, refl, sym, ap, ◌∙◌, subst, inl, inr, arith, true≢false}
use Rattle.std.specs.Prelude.{MatchOption, max, slice_index, slice_set}
use Rattle.std.proofs.lemmas.Bool.{cases_eq, cases_lt}
use Rattle.std.proofs.lemmas.List.{get_or-set_same, get_or-set_other, get_or_past, length-set}
use Rattle.timed_queue.specs.Timed.{Timed}
use Rattle.traffic_file.specs.declared.Bus.{Bus}
use Rattle.traffic_file.specs.Traffic.{line_at, target_at, initiator_of, home_of, CanRun}
use Rattle.bus_router.specs.declared.rows.BusRow.{BusRow}
use Rattle.bus_router.specs.Times.{Table, row_at, Earlier, IsHeld, IsNowhere, IsServed}
use Rattle.bus_router.specs.TableSofar.{IsAtSofar, IsFirstSofar, IsBeforeSofar, Rises, Fits}
use Rattle.bus_router.specs.Making.{IsDone, IsBegun, IsKept, Serving, Returning, done_count, limit, nowhere_row, home_row, ServedNowhere, ServedAt, IsServedNow}
use Rattle.bus_router.proofs.Next.{apart, row_of_done, earlier_too, held_before}
use Rattle.bus_router.proofs.Made.{made_served, kept_too, kept_here, settled_too, fresh_too, follows_done, behind_waiting}
use Rattle.bus_router.proofs.Queues.{queues_served}
use Rattle.bus_router.proofs.Bounds.{few_done, at_k, at_other, done_more, begun_same, bounded_set}

module _ (bus : Bus) (can : CanRun bus) (rows : List BusRow) (busy : List ℕ) (queue : Timed) (due : List ℕ) (place now from k : ℕ)
    (it : Serving bus rows busy queue due place now from k) where
  abbrev one : Table
  one = row_at rows

  begun : IsBegun bus one k
  begun = it.parts.made.waiting k it.is_due.waiting

  pub served_there : k < length bus.lines
  served_there = begun.there

  -- its initiator is one of those that have begun
  started : initiator_of bus k < from
  started = elim (cases_lt (initiator_of bus k) from) [
    | inl before ↦ before
    | inr past ↦ absurd (let fresh = (it.fresh k begun.there past).a in let some = it.is_due.waiting.begun in omega arith)
  ]

  idle : (one k).r ≡ 0
  idle = it.is_due.waiting.idle

  in_rows : k < length rows
  in_rows = let many = it.parts.many in let there = begun.there in omega arith

  module _ (row : BusRow) (row_b : row.b ≡ (one k).b) (row_a : row.a ≡ (one k).a) (row_d : row.direct ≡ false) (rises : Rises row) (row_r : row.r ≡ row.e + bus.delay) where
    abbrev other : Table
    other = row_at (slice_set rows k row)

    at : other k ≡ row
    at = at_k rows k row in_rows

    same : (m : ℕ) → m ≢ k → other m ≡ one m
    same = at_other rows k row in_rows

    is_done : IsDone other k
    is_done = subst (λ (r : BusRow). 0 < r.r) (sym at) (let takes = can.takes_time in omega arith)

    routed : (other k).direct ≡ false
    routed = ap (λ (r : BusRow). r.direct) at ∙ row_d

    at_a : (other k).a ≡ (one k).a
    at_a = ap (λ (r : BusRow). r.a) at ∙ row_a

    -- what went before it comes before it
    pub before_k : (m : ℕ) → IsDone one m → (one m).direct ≡ false → Earlier other m k
    before_k m is its = moved (it.parts.made.order m k is its it.is_due.waiting)
      where
        moved : Earlier one m k → Earlier other m k
        moved (inl less) = let also = ap (λ (r : BusRow). r.a) (row_of_done bus one other k same idle m is) in let mine = at_a in inl (omega arith)
        moved (inr even) = let also = ap (λ (r : BusRow). r.a) (row_of_done bus one other k same idle m is) in let mine = at_a in let both = even.0 in inr (omega arith, even.1)

    -- the row fits, where it does at its home
    fits : (nowhere : home_of bus k ≡ None → IsNowhere bus.delay row)
        → (alone : (home : ℕ) → home_of bus k ≡ Some home → IsFirstSofar bus (IsDone one) other home k → row.s ≡ row.a)
        → (behind : (home j : ℕ) → home_of bus k ≡ Some home → IsBeforeSofar bus (IsDone one) other home j k → row.s ≡ max row.a (other j).e)
        → (served : (home : ℕ) → home_of bus k ≡ Some home → IsServed bus.delay (target_at bus home).latency row)
        → Fits bus (IsDone one) other k
    fits nowhere alone behind served = record {
      closed = begun.closed;
      rises = subst Rises (sym at) rises;
      begins = λ first. ap (λ (r : BusRow). r.b) at ∙ row_b ∙ begun.begins first;
      goes_on = λ j before. ap (λ (r : BusRow). r.b) at ∙ row_b ∙ begun.goes_on j before
          ∙ ap (λ n. max (line_at bus k).time n) (sym (ap (λ (r : BusRow). r.r) (row_of_done bus one other k same idle j (begun.closed j before.earlier before.same))));
      direct = (
        λ direct. absurd (true≢false (sym direct ∙ routed)),
        λ held. absurd (begun.free (held_before bus one other k same idle k begun.closed (one k).b (subst (λ time. IsHeld bus other k time) (ap (λ (r : BusRow). r.b) at ∙ row_b) held))),
      );
      at_once = λ direct. absurd (true≢false (sym direct ∙ routed));
      arrives = λ _. at_a ∙ begun.arrives ∙ ap (λ n. n + bus.delay) (sym (ap (λ (r : BusRow). r.b) at ∙ row_b));
      nowhere = λ _ home_is. subst (IsNowhere bus.delay) (sym at) (nowhere home_is);
      alone = λ home home_is _ first. ap (λ (r : BusRow). r.s) at ∙ alone home home_is first ∙ sym (ap (λ (r : BusRow). r.a) at);
      behind = λ home j home_is _ before. ap (λ (r : BusRow). r.s) at ∙ behind home j home_is before ∙ ap (λ n. max n (other j).e) (sym (ap (λ (r : BusRow). r.a) at));
      served = λ home home_is _. subst (IsServed bus.delay _) (sym at) (served home home_is);
    }

    returns : (busy' : List ℕ) → length busy' ≡ length bus.targets → Fits bus (IsDone one) other k
        → ((home : ℕ) → home < length bus.targets → IsKept bus other home (slice_index busy' home))
        → row.r < limit rows + 2 ^ 42
        → Returning bus (slice_set rows k row) busy' queue due place now from (initiator_of bus k) (k + 1) row.r
    returns busy' homes is kept low = record {
      parts = record {
        many = length-set rows k row ∙ it.parts.many;
        homes = homes;
        made = made_served bus one other k same idle busy busy' now it.parts.made is is_done routed it.is_due.waiting at_a it.is_due.arrives it.least kept;
        bounded =
            let arrived = it.parts.bounded.arrived k in
            let counted = more in
            bounded_set rows k row in_rows it.parts.bounded (omega arith) (omega arith) (omega arith);
        room =
            let waits = it.is_due.waiting.begun in
            let also = begun_same rows k row in_rows waits (omega arith) in
            let room = it.parts.room in
            omega arith;
      };
      settled = λ j before off. settled_too bus one other k same idle j off (it.settled j before);
      fresh = fresh_too bus one other k same idle from started it.fresh;
      before = started;
      queues = queues_served bus one other k same idle queue.times due place now it.is_due (λ waits. let still_idle = waits.idle in let done = is_done in omega arith) it.queues;
      follows = follows_done bus one other k same idle (initiator_of bus k) row.r refl is_done (ap (λ (r : BusRow). r.r) at) begun.closed
          (λ j after _ its. behind_waiting bus one k it.parts.made.timed it.parts.made.waiting it.is_due.waiting j after its);
      later = let arrived = it.is_due.arrives in let a = rises.arrives in let s = rises.waits in let e = rises.served in let r = rises.back in omega arith;
      below = let counted = more in omega arith;
    }
      where
        more : done_count (slice_set rows k row) ≡ done_count rows + 1
        more = done_more rows k row in_rows idle (let takes = can.takes_time in omega arith)

    -- it has no home
    returns_nowhere : home_of bus k ≡ None → row.s ≡ row.a → row.e ≡ row.a
        → Returning bus (slice_set rows k row) busy queue due place now from (initiator_of bus k) (k + 1) row.r
    returns_nowhere none starts ends = returns busy it.parts.homes
        (fits (λ _. record { s = starts; e = ends; r = row_r ∙ ap (λ n. n + bus.delay) ends }) (λ home is. away home is) (λ home j is. away home is) (λ home is. away home is))
        (λ home there. kept_too bus one other k same idle home (slice_index busy home) (λ here. away home here.home_is) (it.parts.made.kept home there))
        (let arrived = it.parts.bounded.arrived k in let takes = can.delay in omega arith)
      where
        away : {A : Type 0} (home : ℕ) → home_of bus k ≡ Some home → A
        away home is = let both : ◌≡◌ {A = Option ℕ} None (Some home) = sym none ∙ is in cc

    -- it is served at its home
    module _ (home : ℕ) (home_is : home_of bus k ≡ Some home) (there : home < length bus.targets)
        (starts : row.s ≡ max row.a (slice_index busy home)) (ends : row.e ≡ row.s + (target_at bus home).latency) where
      this : (h : ℕ) → home_of bus k ≡ Some h → h ≡ home
      this h is = let both : Some h ≡ Some home = sym is ∙ home_is in cc

      at_in_one : (m : ℕ) → IsAtSofar bus (IsDone one) other home m → IsAtSofar bus (IsDone one) one home m
      at_in_one m here = record {
        there = here.there;
        home_is = here.home_is;
        routed = sym (ap (λ (r : BusRow). r.direct) (row_of_done bus one other k same idle m here.there)) ∙ here.routed;
      }

      at_in_other : (m : ℕ) → IsAtSofar bus (IsDone one) one home m → IsAtSofar bus (IsDone one) other home m
      at_in_other m here = record {
        there = here.there;
        home_is = here.home_is;
        routed = ap (λ (r : BusRow). r.direct) (row_of_done bus one other k same idle m here.there) ∙ here.routed;
      }

      alone : IsKept bus one home (slice_index busy home) → IsFirstSofar bus (IsDone one) other home k → row.s ≡ row.a
      alone (inl none) first = let zero_end = none.1 in omega arith
      alone (inr last) first = absurd (first last.0 (at_in_other last.0 last.1.at) (before_k last.0 last.1.at.there last.1.at.routed))

      behind : IsKept bus one home (slice_index busy home) → (j : ℕ) → IsBeforeSofar bus (IsDone one) other home j k → row.s ≡ max row.a (other j).e
      behind (inl none) j before = absurd (none.0 j (at_in_one j before.at))
      behind (inr last) j before = by_case (last.1.last j (at_in_one j before.at))
        where
          by_case : (j ≡ last.0) ⊎ Earlier one j last.0 → row.s ≡ max row.a (other j).e
          by_case (inl is) = starts ∙ ap (λ n. max row.a n) (last.2 ∙ sym (ap (λ (r : BusRow). r.e) (row_of_done bus one other k same idle last.0 last.1.at.there)) ∙ ap (λ p. (other p).e) (sym is))
          by_case (inr first) = absurd (before.none_between last.0 (at_in_other last.0 last.1.at)
              (earlier_too bus one other k same idle j last.0 (apart bus one other k same idle j before.at.there) (apart bus one other k same idle last.0 last.1.at.there) first)
              (before_k last.0 last.1.at.there last.1.at.routed))

      -- what is kept of the home is below the limit
      pub busy_below : IsKept bus one home (slice_index busy home) → slice_index busy home < limit rows
      busy_below (inl none) = let zero_end = none.1 in omega arith
      busy_below (inr last) =
          let is = last.2 in
          let rises = it.parts.made.timed.rises last.0 last.1.at.there in
          let end = rises.back in
          let below = it.parts.bounded.back last.0 in
          omega arith

      kept_now : (h : ℕ) → h < length bus.targets → IsKept bus other h (slice_index (slice_set busy home row.e) h)
      kept_now h its = elim (cases_eq h home) [
        | inl here ↦ subst (λ n. IsKept bus other n (slice_index (slice_set busy home row.e) n)) (sym here)
            (kept_here bus one other k same idle home (slice_index (slice_set busy home row.e) home) (record { there = is_done; home_is = home_is; routed = routed })
            before_k
            (get_or-set_same busy home row.e 0 (let homes = it.parts.homes in omega arith) ∙ sym (ap (λ (r : BusRow). r.e) at)))
        | inr off ↦ subst (λ n. IsKept bus other h n) (sym (get_or-set_other busy home h row.e 0 off))
            (kept_too bus one other k same idle h (slice_index busy h) (λ here. off (this h here.home_is)) (it.parts.made.kept h its))
      ]

      returns_from_home : Returning bus (slice_set rows k row) (slice_set busy home row.e) queue due place now from (initiator_of bus k) (k + 1) row.r
      returns_from_home = returns (slice_set busy home row.e) (length-set busy home row.e ∙ it.parts.homes)
          (fits (λ none. absurd (no_home none))
          (λ h is. subst (λ n. IsFirstSofar bus (IsDone one) other n k → row.s ≡ row.a) (sym (this h is)) (alone (it.parts.made.kept home there)))
          (λ h j is. subst (λ n. IsBeforeSofar bus (IsDone one) other n j k → row.s ≡ max row.a (other j).e) (sym (this h is)) (behind (it.parts.made.kept home there) j))
          (λ h is. subst (λ n. IsServed bus.delay (target_at bus n).latency row) (sym (this h is)) (record { e = ends; r = row_r })))
          kept_now
          (let arrived = it.parts.bounded.arrived k in
          let below = busy_below (it.parts.made.kept home there) in
          let takes = can.delay in
          let serves = can.latencies home there in
          omega arith)
        where
          no_home : home_of bus k ≡ None → ⊥
          no_home none = let both : ◌≡◌ {A = Option ℕ} None (Some home) = sym none ∙ home_is in cc

  -- in either case
  pub serving_ends : (row : BusRow) (busy' : List ℕ) → IsServedNow bus k (one k) row busy busy'
      → Returning bus (slice_set rows k row) busy' queue due place now from (initiator_of bus k) (k + 1) row.r
  serving_ends row busy' served = by_home (home_of bus k) refl served
    where
      by_home : (o : Option ℕ) → home_of bus k ≡ o → MatchOption o (ServedNowhere bus (one k) row busy busy') (ServedAt bus (one k) row busy busy')
          → Returning bus (slice_set rows k row) busy' queue due place now from (initiator_of bus k) (k + 1) row.r
      by_home None none it = subst (λ (both : BusRow × List ℕ). Returning bus (slice_set rows k both.0) both.1 queue due place now from (initiator_of bus k) (k + 1) both.0.r)
          (λ i. (sym it.row i, sym it.homes i))
          (returns_nowhere (nowhere_row bus.delay (one k)) refl refl refl (record { arrives = early; waits = omega arith; served = omega arith; back = omega arith }) refl none refl refl)
        where
          early : (one k).b ≤ (one k).a
          early = let is = begun.arrives in omega arith
      by_home (Some home) some it = subst (λ (both : BusRow × List ℕ). Returning bus (slice_set rows k both.0) both.1 queue due place now from (initiator_of bus k) (k + 1) both.0.r)
          (λ i. (sym it.row i, sym (it.homes ∙ ap (λ (r : BusRow). slice_set busy home r.e) it.row) i))
          (returns_from_home (home_row bus.delay (target_at bus home).latency (slice_index busy home) (one k)) refl refl refl
          (record { arrives = early; waits = omega arith; served = omega arith; back = omega arith }) refl home some it.there refl refl)
        where
          early : (one k).b ≤ (one k).a
          early = let is = begun.arrives in omega arith

  -- what is kept of a home is low
  pub end_below : (home : ℕ) → slice_index busy home < limit rows
  end_below home = elim (cases_lt home (length bus.targets)) [
    | inl there ↦ by_kept (it.parts.made.kept home there)
    | inr past ↦ let none = get_or_past busy home 0 (let homes = it.parts.homes in omega arith) in omega arith
  ]
    where
      by_kept : IsKept bus one home (slice_index busy home) → slice_index busy home < limit rows
      by_kept (inl none) = let zero_end = none.1 in omega arith
      by_kept (inr last) =
          let is = last.2 in
          let rises = it.parts.made.timed.rises last.0 last.1.at.there in
          let end = rises.back in
          let below = it.parts.bounded.back last.0 in
          omega arith

  pub limit_low : limit rows < 2 ^ 56
  limit_low = let few = few_done rows in let many = it.parts.many in let lines = can.few_lines in omega arith

  pub one_more_done : (row : BusRow) → 0 < row.r → done_count rows < done_count (slice_set rows k row)
  one_more_done row some = let more = done_more rows k row in_rows idle some in omega arith
