-- One row more: what was done keeps the times of the bus, and so does the row that is done now.
use Rattle.std.proofs.Common.{◌≡◌, ◌≢◌, ℕ, ◌+◌, ◌<◌, false, Some, sym, ap, ◌∙◌, subst, inl, inr, arith}
use Rattle.std.specs.Prelude.{max}
use Rattle.std.proofs.lemmas.Bool.{cases_eq}
use Rattle.traffic_file.specs.declared.Bus.{Bus}
use Rattle.traffic_file.specs.Traffic.{line_at, initiator_of, home_of}
use Rattle.bus_router.specs.declared.rows.BusRow.{BusRow}
use Rattle.bus_router.specs.Times.{Table, Earlier, IsHeld, IsAtOnce, IsNowhere, IsServed}
use Rattle.bus_router.specs.TableSofar.{IsAtSofar, IsFirstSofar, IsBeforeSofar, Rises, TimedSofar, Fits}
use Rattle.bus_router.specs.Making.{IsDone, IsWaiting, IsBegun}
use Rattle.bus_router.proofs.Orders.{asymmetric}
use Rattle.bus_router.proofs.Grants.{held_in_other}

-- ---- row by row

pub fits_of : (bus : Bus) (done : ℕ → Type 0) (table : Table) → TimedSofar bus done table → (k : ℕ) → done k → Fits bus done table k
fits_of bus done table timed k is = record {
  closed = λ j. timed.closed j k is;
  rises = timed.rises k is;
  begins = timed.begins k is;
  goes_on = λ j. timed.goes_on j k is;
  direct = timed.direct k is;
  at_once = timed.at_once k is;
  arrives = timed.arrives k is;
  nowhere = timed.nowhere k is;
  alone = λ home home_is routed. timed.alone home k (record { there = is; home_is = home_is; routed = routed });
  behind = λ home j home_is routed. timed.behind home j k (record { there = is; home_is = home_is; routed = routed });
  served = λ home home_is routed. timed.served home k (record { there = is; home_is = home_is; routed = routed });
}

pub timed_of : (bus : Bus) (done : ℕ → Type 0) (table : Table) → ((k : ℕ) → done k → Fits bus done table k) → TimedSofar bus done table
timed_of bus done table fits = record {
  closed = λ j k is. (fits k is).closed j;
  rises = λ k is. (fits k is).rises;
  begins = λ k is. (fits k is).begins;
  goes_on = λ j k is. (fits k is).goes_on j;
  direct = λ k is. (fits k is).direct;
  at_once = λ k is. (fits k is).at_once;
  arrives = λ k is. (fits k is).arrives;
  nowhere = λ k is. (fits k is).nowhere;
  alone = λ home k at. (fits k at.there).alone home at.home_is at.routed;
  behind = λ home j k at. (fits k at.there).behind home j at.home_is at.routed;
  served = λ home k at. (fits k at.there).served home at.home_is at.routed;
}

-- ---- a table that differs from another in the row of k alone, which was not done there

module _ (bus : Bus) (one other : Table) (k : ℕ) (same : (m : ℕ) → m ≢ k → other m ≡ one m) (idle : (one k).r ≡ 0) where
  pub apart : (m : ℕ) → IsDone one m → m ≢ k
  apart m is here = let row : (one m).r ≡ (one k).r = ap (λ p. (one p).r) here in omega arith

  pub row_of_done : (m : ℕ) → IsDone one m → other m ≡ one m
  row_of_done m is = same m (apart m is)

  pub done_too : (m : ℕ) → IsDone one m → IsDone other m
  done_too m is = subst (λ (row : BusRow). 0 < row.r) (sym (row_of_done m is)) is

  pub done_before : (m : ℕ) → m ≢ k → IsDone other m → IsDone one m
  done_before m off is = subst (λ (row : BusRow). 0 < row.r) (same m off) is

  pub waits_before : (m : ℕ) → m ≢ k → IsWaiting other m → IsWaiting one m
  waits_before m off is = record {
    begun = subst (λ (row : BusRow). 0 < row.a) (same m off) is.begun;
    idle = subst (λ (row : BusRow). row.r ≡ 0) (same m off) is.idle;
  }

  pub waits_too : (m : ℕ) → m ≢ k → IsWaiting one m → IsWaiting other m
  waits_too m off is = record {
    begun = subst (λ (row : BusRow). 0 < row.a) (sym (same m off)) is.begun;
    idle = subst (λ (row : BusRow). row.r ≡ 0) (sym (same m off)) is.idle;
  }

  pub earlier_too : (j m : ℕ) → j ≢ k → m ≢ k → Earlier one j m → Earlier other j m
  earlier_too j m off away (inl less) = let its = ap (λ (row : BusRow). row.a) (same j off) in let also = ap (λ (row : BusRow). row.a) (same m away) in inl (omega arith)
  earlier_too j m off away (inr even) = let its = ap (λ (row : BusRow). row.a) (same j off) in let also = ap (λ (row : BusRow). row.a) (same m away) in let is = even.0 in inr (omega arith, even.1)

  pub earlier_before : (j m : ℕ) → j ≢ k → m ≢ k → Earlier other j m → Earlier one j m
  earlier_before j m off away (inl less) = let its = ap (λ (row : BusRow). row.a) (same j off) in let also = ap (λ (row : BusRow). row.a) (same m away) in inl (omega arith)
  earlier_before j m off away (inr even) = let its = ap (λ (row : BusRow). row.a) (same j off) in let also = ap (λ (row : BusRow). row.a) (same m away) in let is = even.0 in inr (omega arith, even.1)

  pub at_too : (home m : ℕ) → IsAtSofar bus (IsDone one) one home m → IsAtSofar bus (IsDone other) other home m
  at_too home m at = record {
    there = done_too m at.there;
    home_is = at.home_is;
    routed = ap (λ (row : BusRow). row.direct) (row_of_done m at.there) ∙ at.routed;
  }

  pub at_before : (home m : ℕ) → m ≢ k → IsAtSofar bus (IsDone other) other home m → IsAtSofar bus (IsDone one) one home m
  at_before home m off at = record {
    there = done_before m off at.there;
    home_is = at.home_is;
    routed = sym (ap (λ (row : BusRow). row.direct) (same m off)) ∙ at.routed;
  }

  -- a grant stands for what comes behind accesses that are done
  pub held_before : (m : ℕ) → ((j : ℕ) → j < m → initiator_of bus j ≡ initiator_of bus m → IsDone one j) → (time : ℕ) → IsHeld bus other m time → IsHeld bus one m time
  held_before m closed time = held_in_other bus other one m (λ j less is. row_of_done j (closed j less is)) time

  pub held_too : (m : ℕ) → ((j : ℕ) → j < m → initiator_of bus j ≡ initiator_of bus m → IsDone one j) → (time : ℕ) → IsHeld bus one m time → IsHeld bus other m time
  held_too m closed time = held_in_other bus one other m (λ j less is. sym (row_of_done j (closed j less is))) time

  pub begun_too : (m : ℕ) → m ≢ k → IsBegun bus one m → IsBegun bus other m
  begun_too m off begun = record {
    there = begun.there;
    closed = λ j less is. done_too j (begun.closed j less is);
    begins = λ first. ap (λ (row : BusRow). row.b) (same m off) ∙ begun.begins first;
    goes_on = λ j before. ap (λ (row : BusRow). row.b) (same m off) ∙ begun.goes_on j before
        ∙ ap (λ n. max (line_at bus m).time n) (sym (ap (λ (row : BusRow). row.r) (row_of_done j (begun.closed j before.earlier before.same))));
    routed = ap (λ (row : BusRow). row.direct) (same m off) ∙ begun.routed;
    free = λ held. begun.free (subst (λ time. IsHeld bus one m time) (ap (λ (row : BusRow). row.b) (same m off)) (held_before m begun.closed (other m).b held));
    arrives = ap (λ (row : BusRow). row.a) (same m off) ∙ begun.arrives ∙ ap (λ n. n + bus.delay) (sym (ap (λ (row : BusRow). row.b) (same m off)));
  }

  -- what was done fits in the other table, where k comes behind all that went through the router
  pub fits_too : (m : ℕ) → IsDone one m → Fits bus (IsDone one) one m
      → ((one m).direct ≡ false → IsDone other k → (other k).direct ≡ false → Earlier other m k) → Fits bus (IsDone other) other m
  fits_too m is fits later = record {
    closed = λ j less on. done_too j (fits.closed j less on);
    rises = subst Rises (sym row) fits.rises;
    begins = λ first. ap (λ (row : BusRow). row.b) row ∙ fits.begins first;
    goes_on = λ j before. ap (λ (row : BusRow). row.b) row ∙ fits.goes_on j before
        ∙ ap (λ n. max (line_at bus m).time n) (sym (ap (λ (row : BusRow). row.r) (row_of_done j (fits.closed j before.earlier before.same))));
    direct = (
      λ direct. subst (λ time. IsHeld bus other m time) (sym (ap (λ (row : BusRow). row.b) row)) (held_too m fits.closed (one m).b (fits.direct.0 (sym (ap (λ (row : BusRow). row.direct) row) ∙ direct))),
      λ held. ap (λ (row : BusRow). row.direct) row ∙ fits.direct.1 (subst (λ time. IsHeld bus one m time) (ap (λ (row : BusRow). row.b) row) (held_before m fits.closed (other m).b held)),
    );
    at_once = λ direct. subst IsAtOnce (sym row) (fits.at_once (sym (ap (λ (row : BusRow). row.direct) row) ∙ direct));
    arrives = λ routed. ap (λ (row : BusRow). row.a) row ∙ fits.arrives (sym (ap (λ (row : BusRow). row.direct) row) ∙ routed) ∙ ap (λ n. n + bus.delay) (sym (ap (λ (row : BusRow). row.b) row));
    nowhere = λ routed home_is. subst (IsNowhere bus.delay) (sym row) (fits.nowhere (sym (ap (λ (row : BusRow). row.direct) row) ∙ routed) home_is);
    alone = λ home home_is routed first. ap (λ (row : BusRow). row.s) row ∙ fits.alone home home_is (sym (ap (λ (row : BusRow). row.direct) row) ∙ routed) (alone_before home first) ∙ sym (ap (λ (row : BusRow). row.a) row);
    behind = λ home j home_is routed before. behind_too home j home_is (sym (ap (λ (row : BusRow). row.direct) row) ∙ routed) before;
    served = λ home home_is routed. subst (IsServed bus.delay _) (sym row) (fits.served home home_is (sym (ap (λ (row : BusRow). row.direct) row) ∙ routed));
  }
    where
      row : other m ≡ one m
      row = row_of_done m is

      alone_before : (home : ℕ) → IsFirstSofar bus (IsDone other) other home m → IsFirstSofar bus (IsDone one) one home m
      alone_before home first x at earlier = first x (at_too home x at) (earlier_too x m (apart x at.there) (apart m is) earlier)

      behind_too : (home j : ℕ) → home_of bus m ≡ Some home → (one m).direct ≡ false → IsBeforeSofar bus (IsDone other) other home j m → (other m).s ≡ max (other m).a (other j).e
      behind_too home j home_is routed before = elim (cases_eq j k) [
        | inl here ↦ absurd (asymmetric other j m before.earlier (subst (λ p. Earlier other m p) (sym here) (later routed (subst (λ p. IsDone other p) here before.at.there) (ap (λ p. (other p).direct) (sym here) ∙ before.at.routed))))
        | inr off ↦
            ap (λ (row : BusRow). row.s) row
            ∙ fits.behind home j home_is routed (record {
              at = at_before home j off before.at;
              earlier = earlier_before j m off (apart m is) before.earlier;
              none_between = λ x at after less. before.none_between x (at_too home x at) (earlier_too j x off (apart x at.there) after) (earlier_too x m (apart x at.there) (apart m is) less);
            })
            ∙ ap (λ n. max n (one j).e) (sym (ap (λ (row : BusRow). row.a) row)) ∙ ap (λ n. max (other m).a n) (sym (ap (λ (row : BusRow). row.e) (same j off)))
      ]

  -- the row of k fits where it is done too
  pub fits_here : Fits bus (IsDone one) other k → Fits bus (IsDone other) other k
  fits_here fits = record {
    closed = λ j less on. done_too j (fits.closed j less on);
    rises = fits.rises;
    begins = fits.begins;
    goes_on = fits.goes_on;
    direct = fits.direct;
    at_once = fits.at_once;
    arrives = fits.arrives;
    nowhere = fits.nowhere;
    alone = λ home home_is routed first. fits.alone home home_is routed (λ x at. first x (at_there home x at));
    behind = λ home j home_is routed before. fits.behind home j home_is routed (record {
      at = at_earlier home j (off j before.earlier) before.at;
      earlier = before.earlier;
      none_between = λ x at. before.none_between x (at_there home x at);
    });
    served = fits.served;
  }
    where
      at_there : (home x : ℕ) → IsAtSofar bus (IsDone one) other home x → IsAtSofar bus (IsDone other) other home x
      at_there home x at = record { there = done_too x at.there; home_is = at.home_is; routed = at.routed }

      at_earlier : (home x : ℕ) → x ≢ k → IsAtSofar bus (IsDone other) other home x → IsAtSofar bus (IsDone one) other home x
      at_earlier home x away at = record { there = done_before x away at.there; home_is = at.home_is; routed = at.routed }

      off : (j : ℕ) → Earlier other j k → j ≢ k
      off j earlier here = let again : Earlier other k k = subst (λ p. Earlier other p k) here earlier in asymmetric other k k again again

  -- all that is done now fits
  pub timed_next : TimedSofar bus (IsDone one) one → Fits bus (IsDone one) other k
      → ((m : ℕ) → IsDone one m → (one m).direct ≡ false → (other k).direct ≡ false → Earlier other m k) → TimedSofar bus (IsDone other) other
  timed_next timed next later = timed_of bus (IsDone other) other (λ m is. elim (cases_eq m k) [
    | inl here ↦ subst (Fits bus (IsDone other) other) (sym here) (fits_here next)
    | inr off ↦ let was : IsDone one m = done_before m off is in fits_too m was (fits_of bus (IsDone one) one timed m was) (λ routed is. later m was routed)
  ])

  -- and where k is not done
  pub timed_still : TimedSofar bus (IsDone one) one → (other k).r ≡ 0 → TimedSofar bus (IsDone other) other
  timed_still timed waits = timed_of bus (IsDone other) other (λ m is. elim (cases_eq m k) [
    | inl here ↦ absurd (let row : (other m).r ≡ (other k).r = ap (λ p. (other p).r) here in omega arith)
    | inr off ↦ let was : IsDone one m = done_before m off is in fits_too m was (fits_of bus (IsDone one) one timed m was) (λ routed is. absurd (omega arith))
  ])
