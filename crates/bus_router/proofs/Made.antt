-- What is made so far, where one access begins to wait, is done at once, or is served.
use Rattle.std.proofs.Common.{◌≡◌, ◌≢◌, ℕ, ◌+◌, ◌<◌, ◌≤◌, ◌⊎◌, true, false, List, refl, sym, ap, ◌∙◌, subst, inl, inr, arith, length, true≢false}
use Rattle.std.specs.Prelude.{max, slice_index}
use Rattle.std.proofs.lemmas.Bool.{cases_eq, cases_lt}
use Rattle.traffic_file.specs.declared.Bus.{Bus}
use Rattle.traffic_file.specs.Traffic.{line_at, initiator_of}
use Rattle.bus_router.specs.declared.rows.BusRow.{BusRow}
use Rattle.bus_router.specs.Times.{Table, Earlier, IsFirst, IsBefore}
use Rattle.bus_router.specs.TableSofar.{IsAtSofar, TimedSofar, Fits}
use Rattle.bus_router.specs.Making.{IsDone, IsWaiting, IsFresh, IsBegun, IsKept, Made, IsBehindWaiting, IsSettled, AreFresh, Follows}
use Rattle.bus_router.proofs.Next.{apart, row_of_done, done_too, done_before, waits_before, waits_too, earlier_too, at_too, at_before, begun_too, timed_next, timed_still}

module _ (bus : Bus) (one other : Table) (k : ℕ) (same : (m : ℕ) → m ≢ k → other m ≡ one m) (idle : (one k).r ≡ 0) where
  -- ---- homes

  pub kept_too : (home end : ℕ) → (IsAtSofar bus (IsDone other) other home k → ⊥) → IsKept bus one home end → IsKept bus other home end
  kept_too home end away (inl none) = inl (
    λ m at. elim (cases_eq m k) [
      | inl here ↦ away (subst (λ p. IsAtSofar bus (IsDone other) other home p) here at)
      | inr off ↦ none.0 m (at_before bus one other k same idle home m off at)
    ],
    none.1,
  )
  kept_too home end away (inr it) = inr (
    it.0,
    record {
      at = at_too bus one other k same idle home it.0 it.1.at;
      last = λ m at. elim (cases_eq m k) [
        | inl here ↦ absurd (away (subst (λ p. IsAtSofar bus (IsDone other) other home p) here at))
        | inr off ↦ later m off (it.1.last m (at_before bus one other k same idle home m off at))
      ];
    },
    it.2 ∙ sym (ap (λ (row : BusRow). row.e) (row_of_done bus one other k same idle it.0 it.1.at.there)),
  )
    where
      later : (m : ℕ) → m ≢ k → (m ≡ it.0) ⊎ Earlier one m it.0 → (m ≡ it.0) ⊎ Earlier other m it.0
      later m off (inl is) = inl is
      later m off (inr first) = inr (earlier_too bus one other k same idle m it.0 off (apart bus one other k same idle it.0 it.1.at.there) first)

  -- k is the last at its home
  pub kept_here : (home end : ℕ) → IsAtSofar bus (IsDone other) other home k → ((m : ℕ) → IsDone one m → (one m).direct ≡ false → Earlier other m k) → end ≡ (other k).e → IsKept bus other home end
  kept_here home end at later is = inr (
    k,
    record {
      at = at;
      last = λ m there. elim (cases_eq m k) [
        | inl here ↦ inl here
        | inr off ↦ let was = at_before bus one other k same idle home m off there in inr (later m was.there was.routed)
      ];
    },
    is,
  )

  -- ---- order

  order_too : (m w : ℕ) → IsDone one m → w ≢ k → Earlier one m w → Earlier other m w
  order_too m w is off first = earlier_too bus one other k same idle m w (apart bus one other k same idle m is) off first

  routed_before : (m : ℕ) → m ≢ k → (other m).direct ≡ false → (one m).direct ≡ false
  routed_before m off routed = sym (ap (λ (row : BusRow). row.direct) (same m off)) ∙ routed

  pub arrives_later : (m : ℕ) → IsDone one m → (one m).a < (other k).a → Earlier other m k
  arrives_later m is less = inl (let row = ap (λ (row : BusRow). row.a) (row_of_done bus one other k same idle m is) in omega arith)

  -- ---- the three ways

  pub made_waiting : (busy : List ℕ) (now : ℕ) → Made bus one busy now → IsBegun bus other k → (other k).r ≡ 0
      → ((m : ℕ) → IsDone one m → (one m).direct ≡ false → (one m).a < (other k).a) → Made bus other busy now
  made_waiting busy now made begun waits later = record {
    timed = timed_still bus one other k same idle made.timed waits;
    waiting = λ w is. elim (cases_eq w k) [
      | inl here ↦ subst (IsBegun bus other) (sym here) begun
      | inr off ↦ begun_too bus one other k same idle w off (made.waiting w (waits_before bus one other k same idle w off is))
    ];
    order = λ m w is routed wait. order_now m w is routed wait (not_k m is) (cases_eq w k);
    reached = λ m is routed. let was = done_before bus one other k same idle m (not_k m is) is in
        let row = ap (λ (row : BusRow). row.a) (same m (not_k m is)) in
        let its = made.reached m was (routed_before m (not_k m is) routed) in omega arith;
    kept = λ home there. kept_too home (slice_index busy home) (λ at. not_k k at.there refl) (made.kept home there);
  }
    where
      not_k : (m : ℕ) → IsDone other m → m ≢ k
      not_k m is here = let row : (other m).r ≡ (other k).r = ap (λ p. (other p).r) here in omega arith

      order_now : (m w : ℕ) → IsDone other m → (other m).direct ≡ false → IsWaiting other w → m ≢ k → (w ≡ k) ⊎ (w ≢ k) → Earlier other m w
      order_now m w is routed wait off (inl here) =
          let was = done_before bus one other k same idle m off is in
          subst (λ p. Earlier other m p) (sym here) (arrives_later m was (later m was (routed_before m off routed)))
      order_now m w is routed wait off (inr away) =
          let was = done_before bus one other k same idle m off is in
          order_too m w was away (made.order m w was (routed_before m off routed) (waits_before bus one other k same idle w away wait))

  pub made_direct : (busy : List ℕ) (now : ℕ) → Made bus one busy now → Fits bus (IsDone one) other k → (other k).direct ≡ true → IsDone other k → Made bus other busy now
  made_direct busy now made fits direct is_done = record {
    timed = timed_next bus one other k same idle made.timed fits (λ m is routed also. absurd (true≢false (sym direct ∙ also)));
    waiting = λ w is. begun_too bus one other k same idle w (not_k w is) (made.waiting w (waits_before bus one other k same idle w (not_k w is) is));
    order = λ m w is routed wait.
        let off = routed_off m routed in
        let was = done_before bus one other k same idle m off is in
        order_too m w was (not_k w wait) (made.order m w was (routed_before m off routed) (waits_before bus one other k same idle w (not_k w wait) wait));
    reached = λ m is routed.
        let off = routed_off m routed in
        let row = ap (λ (row : BusRow). row.a) (same m off) in
        let its = made.reached m (done_before bus one other k same idle m off is) (routed_before m off routed) in omega arith;
    kept = λ home there. kept_too home (slice_index busy home) (λ at. true≢false (sym direct ∙ at.routed)) (made.kept home there);
  }
    where
      not_k : (w : ℕ) → IsWaiting other w → w ≢ k
      not_k w is here = let row : (other w).r ≡ (other k).r = ap (λ p. (other p).r) here in let still_idle = is.idle in omega arith

      routed_off : (m : ℕ) → (other m).direct ≡ false → m ≢ k
      routed_off m routed here = true≢false (sym direct ∙ ap (λ p. (other p).direct) (sym here) ∙ routed)

  pub made_served : (busy busy' : List ℕ) (now : ℕ) → Made bus one busy now → Fits bus (IsDone one) other k → IsDone other k → (other k).direct ≡ false
      → IsWaiting one k → (other k).a ≡ (one k).a → (one k).a ≡ now
      → ((w : ℕ) → IsWaiting one w → w ≢ k → Earlier one k w)
      → ((home : ℕ) → home < length bus.targets → IsKept bus other home (slice_index busy' home))
      → Made bus other busy' now
  made_served busy busy' now made fits is_done routed_k waits arrives here_now least kept = record {
    timed = timed_next bus one other k same idle made.timed fits (λ m is routed also. before_k m is routed);
    waiting = λ w is. begun_too bus one other k same idle w (not_k w is) (made.waiting w (waits_before bus one other k same idle w (not_k w is) is));
    order = λ m w is routed wait. order_now m w is routed wait (cases_eq m k);
    reached = λ m is routed. reached_now m is routed (cases_eq m k);
    kept = kept;
  }
    where
      not_k : (w : ℕ) → IsWaiting other w → w ≢ k
      not_k w is here = let row : (other w).r ≡ (other k).r = ap (λ p. (other p).r) here in let still_idle = is.idle in omega arith

      moved : (m : ℕ) → IsDone one m → Earlier one m k → Earlier other m k
      moved m is (inl less) = let row = ap (λ (row : BusRow). row.a) (row_of_done bus one other k same idle m is) in inl (omega arith)
      moved m is (inr even) = let row = ap (λ (row : BusRow). row.a) (row_of_done bus one other k same idle m is) in let at = even.0 in inr (omega arith, even.1)

      before_k : (m : ℕ) → IsDone one m → (one m).direct ≡ false → Earlier other m k
      before_k m is routed = moved m is (made.order m k is routed waits)

      behind_k : (w : ℕ) → w ≢ k → Earlier one k w → Earlier other k w
      behind_k w off (inl less) = let row = ap (λ (row : BusRow). row.a) (same w off) in inl (omega arith)
      behind_k w off (inr even) = let row = ap (λ (row : BusRow). row.a) (same w off) in let at = even.0 in inr (omega arith, even.1)

      order_now : (m w : ℕ) → IsDone other m → (other m).direct ≡ false → IsWaiting other w → (m ≡ k) ⊎ (m ≢ k) → Earlier other m w
      order_now m w is routed wait (inl here) =
          let off = not_k w wait in
          subst (λ p. Earlier other p w) (sym here) (behind_k w off (least w (waits_before bus one other k same idle w off wait) off))
      order_now m w is routed wait (inr away) =
          let off = not_k w wait in
          let was = done_before bus one other k same idle m away is in
          order_too m w was off (made.order m w was (routed_before m away routed) (waits_before bus one other k same idle w off wait))

      reached_now : (m : ℕ) → IsDone other m → (other m).direct ≡ false → (m ≡ k) ⊎ (m ≢ k) → (other m).a ≤ now
      reached_now m is routed (inl here) = let row : (other m).a ≡ (other k).a = ap (λ p. (other p).a) here in omega arith
      reached_now m is routed (inr away) =
          let row = ap (λ (row : BusRow). row.a) (same m away) in
          let its = made.reached m (done_before bus one other k same idle m away is) (routed_before m away routed) in
          omega arith

  -- ---- initiators

  pub settled_too : (i : ℕ) → i ≢ initiator_of bus k → IsSettled bus one i → IsSettled bus other i
  settled_too i away settled m there is = by_case (settled m there is)
    where
      off : (j : ℕ) → initiator_of bus j ≡ i → j ≢ k
      off j its here = away (sym its ∙ ap (initiator_of bus) here)

      by_case : IsDone one m ⊎ (IsWaiting one m ⊎ IsBehindWaiting bus one m) → IsDone other m ⊎ (IsWaiting other m ⊎ IsBehindWaiting bus other m)
      by_case (inl done) = inl (done_too bus one other k same idle m done)
      by_case (inr (inl waits)) = inr (inl (waits_too bus one other k same idle m (off m is) waits))
      by_case (inr (inr behind)) = inr (inr (behind.0, behind.1, behind.2, waits_too bus one other k same idle behind.0 (off behind.0 (behind.2 ∙ is)) behind.3))

  pub fresh_too : (from : ℕ) → initiator_of bus k < from → AreFresh bus one from → AreFresh bus other from
  fresh_too from before fresh m there past =
      let off : m ≢ k = λ here. (let is = ap (initiator_of bus) here in omega arith) in
      let was = fresh m there past in
      record { a = ap (λ (row : BusRow). row.a) (same m off) ∙ was.a; r = ap (λ (row : BusRow). row.r) (same m off) ∙ was.r }

  -- where k waits, its initiator is settled
  pub settled_waiting : (i back : ℕ) → initiator_of bus k ≡ i → IsWaiting other k → Follows bus one i k back → IsSettled bus other i
  settled_waiting i back its waits follows m there is = by_place (cases_lt m k)
    where
      by_place : (m < k) ⊎ (k ≤ m) → IsDone other m ⊎ (IsWaiting other m ⊎ IsBehindWaiting bus other m)
      by_place (inl less) = inl (done_too bus one other k same idle m (follows.past m less is))
      by_place (inr more) = elim (cases_eq m k) [
        | inl here ↦ inr (inl (subst (IsWaiting other) (sym here) waits))
        | inr off ↦ inr (inr (k, omega arith, its ∙ sym is, waits))
      ]

  -- where k is done, the next of its initiator follows
  pub follows_done : (i back : ℕ) → initiator_of bus k ≡ i → IsDone other k → (other k).r ≡ back
      → ((j : ℕ) → j < k → initiator_of bus j ≡ i → IsDone one j)
      → ((j : ℕ) → k < j → j < length bus.lines → initiator_of bus j ≡ i → IsFresh one j)
      → Follows bus other i (k + 1) back
  follows_done i back its is_done comes past fresh = record {
    past = λ j less is. elim (cases_eq j k) [
      | inl here ↦ subst (IsDone other) (sym here) is_done
      | inr off ↦ done_too bus one other k same idle j (past j (omega arith) is)
    ];
    fresh = λ j more there is.
        let off : j ≢ k = omega arith in
        let was = fresh j (omega arith) there is in
        record { a = ap (λ (row : BusRow). row.a) (same j off) ∙ was.a; r = ap (λ (row : BusRow). row.r) (same j off) ∙ was.r };
    none = λ none. absurd (none k (omega arith) its);
    last = λ j less is none. elim (cases_eq j k) [
      | inl here ↦ ap (λ p. (other p).r) here ∙ comes
      | inr off ↦ absurd (none k (omega arith) (omega arith) its)
    ];
  }

-- ---- in one table

pub follows_skip : (bus : Bus) (table : Table) (i k back : ℕ) → initiator_of bus k ≢ i → Follows bus table i k back → Follows bus table i (k + 1) back
follows_skip bus table i k back away follows = record {
  past = λ j less is. follows.past j (let off : j ≢ k = not_here j is in omega arith) is;
  fresh = λ j more. follows.fresh j (omega arith);
  none = λ none. follows.none (λ j less. none j (omega arith));
  last = λ j less is none. follows.last j (let off : j ≢ k = not_here j is in omega arith) is (λ m after before. none m after (omega arith));
}
  where
    not_here : (j : ℕ) → initiator_of bus j ≡ i → j ≢ k
    not_here j is here = away (ap (initiator_of bus) (sym here) ∙ is)

pub settled_at_last : (bus : Bus) (table : Table) (i back : ℕ) → Follows bus table i (length bus.lines) back → IsSettled bus table i
settled_at_last bus table i back follows k there is = inl (follows.past k there is)

-- behind one that waits nothing of its initiator has begun
pub behind_waiting : (bus : Bus) (table : Table) (k : ℕ) → TimedSofar bus (IsDone table) table → ((w : ℕ) → IsWaiting table w → IsBegun bus table w) → IsWaiting table k
    → (j : ℕ) → k < j → initiator_of bus j ≡ initiator_of bus k → IsFresh table j
behind_waiting bus table k timed waiting waits j more is = record { a = arrives (cases_lt 0 (table j).a); r = back }
  where
    back : (table j).r ≡ 0
    back = elim (cases_lt 0 (table j).r) [
      | inl done ↦ absurd (let was = timed.closed k j done more (sym is) in let idle = waits.idle in omega arith)
      | inr not ↦ omega arith
    ]

    arrives : (0 < (table j).a) ⊎ ((table j).a ≤ 0) → (table j).a ≡ 0
    arrives (inl begun) = absurd (let was = (waiting j (record { begun = begun; idle = back })).closed k more (sym is) in let idle = waits.idle in omega arith)
    arrives (inr none) = omega arith

-- the begin of the next access of an initiator
pub first_begin : (bus : Bus) (table : Table) (i k back b : ℕ) → initiator_of bus k ≡ i → Follows bus table i k back → b ≡ max (line_at bus k).time back
    → IsFirst bus k → b ≡ (line_at bus k).time
first_begin bus table i k back b is follows begins first = let none = follows.none (λ j less its. first j less (its ∙ sym is)) in omega arith

pub next_begin : (bus : Bus) (table : Table) (i k back b : ℕ) → initiator_of bus k ≡ i → Follows bus table i k back → b ≡ max (line_at bus k).time back
    → (j : ℕ) → IsBefore bus j k → b ≡ max (line_at bus k).time (table j).r
next_begin bus table i k back b is follows begins j before =
    let its = follows.last j before.earlier (before.same ∙ is) (λ m after less same. before.none_between m after less (same ∙ sym is)) in
    omega arith
