-- What is done so far, and what all the table says of it.
use Rattle.std.proofs.Common.{◌≡◌, ℕ, zero, suc, ◌<◌, ◌≤◌, ◌⊎◌, Bool, true, false, Option, Some, None, refl, sym, ap, ◌∙◌, subst, inl, inr, arith, length, true≢false}
use Rattle.std.specs.Prelude.{max}
use Rattle.std.proofs.lemmas.Bool.{cases_eq, cases_lt, cases_order}
use Rattle.traffic_file.specs.declared.Bus.{Bus}
use Rattle.traffic_file.specs.Traffic.{line_at, initiator_of, home_of}
use Rattle.bus_router.specs.Times.{Table, IsAt, Earlier, IsFirstAt, IsBeforeAt, Timed}
use Rattle.bus_router.specs.TableSofar.{IsAtSofar, Rises, TimedSofar}
use Rattle.bus_router.proofs.Orders.{LastAt, last_at, asymmetric, latest_below}

-- ---- once all are done

module _ (bus : Bus) (done : ℕ → Type 0) (table : Table) (all : (k : ℕ) → k < length bus.lines → done k) (only : (k : ℕ) → done k → k < length bus.lines) where
  pub at_sofar : (home k : ℕ) → IsAt bus table home k → IsAtSofar bus done table home k
  at_sofar home k at = record { there = all k at.there; home_is = at.home_is; routed = at.routed }

  pub at_last : (home k : ℕ) → IsAtSofar bus done table home k → IsAt bus table home k
  at_last home k at = record { there = only k at.there; home_is = at.home_is; routed = at.routed }

  pub timed_at_last : TimedSofar bus done table → Timed bus table
  timed_at_last timed = record {
    begins = λ k is. timed.begins k (all k is);
    goes_on = λ j k is. timed.goes_on j k (all k is);
    direct = λ k is. timed.direct k (all k is);
    at_once = λ k is. timed.at_once k (all k is);
    arrives = λ k is. timed.arrives k (all k is);
    nowhere = λ k is. timed.nowhere k (all k is);
    alone = λ home k at first. timed.alone home k (at_sofar home k at) (λ m there. first m (at_last home m there));
    behind = λ home j k at before. timed.behind home j k (at_sofar home k at) (record {
      at = at_sofar home j before.at;
      earlier = before.earlier;
      none_between = λ m there. before.none_between m (at_last home m there);
    });
    served = λ home k at. timed.served home k (at_sofar home k at);
  }

-- ---- in a table of the bus the times of each access follow one another

module _ (bus : Bus) (table : Table) (timed : Timed bus table) where
  is_at : (home m : ℕ) → IsAt bus table home m ⊎ (IsAt bus table home m → ⊥)
  is_at home m = elim (cases_lt m (length bus.lines)) [
    | inl there ↦ by_home (home_of bus m) refl there
    | inr past ↦ inr (λ at. let there = at.there in omega arith)
  ]
    where
      by_direct : home_of bus m ≡ Some home → m < length bus.lines → (b : Bool) → (table m).direct ≡ b → IsAt bus table home m ⊎ (IsAt bus table home m → ⊥)
      by_direct is there true direct = inr (λ at. true≢false (sym direct ∙ at.routed))
      by_direct is there false direct = inl (record { there = there; home_is = is; routed = direct })

      by_home : (o : Option ℕ) → home_of bus m ≡ o → m < length bus.lines → IsAt bus table home m ⊎ (IsAt bus table home m → ⊥)
      by_home None is there = inr (λ at. let both : ◌≡◌ {A = Option ℕ} None (Some home) = sym is ∙ at.home_is in cc)
      by_home (Some other) is there = elim (cases_eq other home) [
        | inl same ↦ by_direct (is ∙ ap Some same) there (table m).direct refl
        | inr apart ↦ inr (λ at. let both : Some other ≡ Some home = sym is ∙ at.home_is in let same : other ≡ home = cc in apart same)
      ]

  -- what goes to the home before k
  pub record Comes (home k m : ℕ) : Type 0 where
    pub at : IsAt bus table home m
    pub earlier : Earlier table m k

  pub comes : (home k m : ℕ) → Comes home k m ⊎ (Comes home k m → ⊥)
  comes home k m = elim (is_at home m) [ inl at ↦ by_arrival at (cases_order (table m).a (table k).a) | inr not ↦ inr (λ it. not it.at) ]
    where
      by_arrival : IsAt bus table home m → ((table m).a ≡ (table k).a) ⊎ (((table m).a < (table k).a) ⊎ ((table k).a < (table m).a)) → Comes home k m ⊎ (Comes home k m → ⊥)
      by_arrival at (inl even) = elim (cases_lt m k) [
        | inl less ↦ inl (record { at = at; earlier = inr (even, less) })
        | inr more ↦ inr (λ it. too_late more it.earlier)
      ]
        where
          too_late : k ≤ m → Earlier table m k → ⊥
          too_late more (inl before) = omega arith
          too_late more (inr also) = let less = also.1 in omega arith
      by_arrival at (inr (inl less)) = inl (record { at = at; earlier = inl less })
      by_arrival at (inr (inr more)) = inr (λ it. too_late it.earlier)
        where
          too_late : Earlier table m k → ⊥
          too_late (inl before) = omega arith
          too_late (inr also) = let even = also.0 in omega arith

  -- the one before k at its home, or there is none
  pub before_at : (home k : ℕ) → IsFirstAt bus table home k ⊎ ((j : ℕ) × IsBeforeAt bus table home j k)
  before_at home k = elim (latest_below table (Comes home k) (comes home k) (length bus.lines)) [
    | inl none ↦ inl (λ m at first. none m at.there (record { at = at; earlier = first }))
    | inr last ↦ inr (
      last.place,
      record {
        at = last.meets.at;
        earlier = last.meets.earlier;
        none_between = λ m at after before. later m after (last.latest m at.there (record { at = at; earlier = before }));
      },
    )
  ]
    where
      later : {j : ℕ} → (m : ℕ) → Earlier table j m → (m ≡ j) ⊎ Earlier table m j → ⊥
      later {j} m after (inl is) = let again : Earlier table j j = subst (λ p. Earlier table j p) is after in asymmetric table j j again again
      later {j} m after (inr before) = asymmetric table j m after before

  pub rising : (k : ℕ) → k < length bus.lines → Rises (table k)
  rising k there = by_direct (table k).direct refl
    where
      by_home : (table k).direct ≡ false → (o : Option ℕ) → home_of bus k ≡ o → Rises (table k)
      by_home routed None is = let far = timed.arrives k there routed in let row = timed.nowhere k there routed is in record {
        arrives = omega arith;
        waits = omega arith;
        served = omega arith;
        back = omega arith;
      }
      by_home routed (Some home) is = record {
        arrives = let far = timed.arrives k there routed in omega arith;
        waits = elim (before_at home k) [
          | inl first ↦ let starts = timed.alone home k at first in omega arith
          | inr before ↦ let starts = timed.behind home before.0 k at before.1 in omega arith
        ];
        served = let row = timed.served home k at in omega arith;
        back = let row = timed.served home k at in omega arith;
      }
        where
          at : IsAt bus table home k
          at = record { there = there; home_is = is; routed = routed }

      by_direct : (b : Bool) → (table k).direct ≡ b → Rises (table k)
      by_direct true is = let row = timed.at_once k there is in record { arrives = omega arith; waits = omega arith; served = omega arith; back = omega arith }
      by_direct false is = by_home is (home_of bus k) refl

  pub timed_sofar : TimedSofar bus (λ k. k < length bus.lines) table
  timed_sofar = record {
    closed = λ j k there less same. omega arith;
    rises = rising;
    begins = timed.begins;
    goes_on = timed.goes_on;
    direct = timed.direct;
    at_once = timed.at_once;
    arrives = timed.arrives;
    nowhere = timed.nowhere;
    alone = λ home k at first. timed.alone home k (back home k at) (λ m there. first m (forth home m there));
    behind = λ home j k at before. timed.behind home j k (back home k at) (record {
      at = back home j before.at;
      earlier = before.earlier;
      none_between = λ m there. before.none_between m (forth home m there);
    });
    served = λ home k at. timed.served home k (back home k at);
  }
    where
      back : (home k : ℕ) → IsAtSofar bus (λ k. k < length bus.lines) table home k → IsAt bus table home k
      back home k at = record { there = at.there; home_is = at.home_is; routed = at.routed }

      forth : (home k : ℕ) → IsAt bus table home k → IsAtSofar bus (λ k. k < length bus.lines) table home k
      forth home k at = record { there = at.there; home_is = at.home_is; routed = at.routed }

-- ---- an initiator's accesses are made one after another

module _ (bus : Bus) (done : ℕ → Type 0) (table : Table) (timed : TimedSofar bus done table) where
  by_place : (j k : ℕ) (last : LastAt (initiator_of bus) (initiator_of bus k) k) → done k → initiator_of bus j ≡ initiator_of bus k
      → (table k).b ≡ max (line_at bus k).time (table last.place).r
      → (j < last.place → done last.place → (table j).r ≤ (table last.place).b)
      → (last.place < j → ⊥)
      → (j ≡ last.place) ⊎ ((j < last.place) ⊎ (last.place < j)) → (table j).r ≤ (table k).b
  by_place j k last is same starts before after (inl here) = let same_row : (table j).r ≡ (table last.place).r = ap (λ p. (table p).r) here in omega arith
  by_place j k last is same starts before after (inr (inl less)) =
      let its : done last.place = timed.closed last.place k is last.below last.is in
      let earlier : (table j).r ≤ (table last.place).b = before less its in
      let rises : Rises (table last.place) = timed.rises last.place its in
      omega arith
  by_place j k last is same starts before after (inr (inr more)) = absurd (after more)

  back_within : (n j k : ℕ) → k ≤ n → done k → j < k → initiator_of bus j ≡ initiator_of bus k → (table j).r ≤ (table k).b
  back_within zero j k fuel is less same = absurd (omega arith)
  back_within (suc n) j k fuel is less same = elim (last_at (initiator_of bus) (initiator_of bus k) k) [
    | inl none ↦ absurd (none j less same)
    | inr last ↦
        by_place j k last is same (timed.goes_on last.place k is (record { earlier = last.below; same = last.is; none_between = last.none_after }))
        (λ before its. back_within n j last.place (let below = last.below in omega arith) its before (same ∙ sym last.is))
        (λ after. last.none_after j after less same)
        (cases_order j last.place)
  ]

  -- the response to an earlier one is back when a later one begins
  pub comes_back : (j k : ℕ) → done k → j < k → initiator_of bus j ≡ initiator_of bus k → (table j).r ≤ (table k).b
  comes_back j k = back_within k j k (omega arith)
