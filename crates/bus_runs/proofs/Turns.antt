-- Where all goes through the router, each home serves in the order of arrival.
use Rattle.std.proofs.Common.{◌≡◌, ◌≢◌, ℕ, zero, suc, ◌<◌, ◌≤◌, ◌⊎◌, true, false, cond, List, length, get_or, sym, ap, ◌∙◌, inl, inr, arith}
use Rattle.std.proofs.lemmas.Bool.{cases_lt, cases_order}
use Rattle.std.proofs.lemmas.Bool.Decides.{nat_tests}
use Rattle.std.proofs.lemmas.List.Elements.{Contains-get_or}
use Rattle.bus_router.specs.DmiMap.declared.order.Rank.{Rank}
use Rattle.bus_router.specs.DmiMap.Ranks.{is_before}
use Rattle.bus_router.specs.TrafficFile.declared.Bus.{Bus}
use Rattle.bus_router.specs.declared.rows.BusRow.{BusRow}
use Rattle.bus_router.specs.Times.{Table, IsAt, IsBeforeAt, Earlier, Timed}
use Rattle.bus_router.proofs.Sofar.{before_at, timed_sofar, comes_back}
use Rattle.bus_router.proofs.Served.{places_of}
use Rattle.bus_router.specs.Answers.{served_rank, IsOf, IsServiceOrder}
use Rattle.bus_runs.specs.Routed.{IsArrivalOrder}
use Rattle.bus_runs.specs.Turns.{TakeTurns}

-- ---- one is served behind another that arrived earlier

earlier_or : (table : Table) (j k : ℕ) → (j ≡ k) ⊎ (Earlier table j k ⊎ Earlier table k j)
earlier_or table j k = elim (cases_order (table j).a (table k).a) [
  | inl even ↦ elim (cases_order j k) [
    | inl same ↦ inl same
    | inr (inl less) ↦ inr (inl (inr (even, less)))
    | inr (inr more) ↦ inr (inr (inr (sym even, more)))
  ]
  | inr (inl less) ↦ inr (inl (inl less))
  | inr (inr more) ↦ inr (inr (inl more))
]

module _ (bus : Bus) (table : Table) (timed : Timed bus table) (home : ℕ) where
  -- k waits until what arrived before it is served
  abbrev Waits : ℕ → Type 0
  Waits k = (j : ℕ) → IsAt bus table home j → IsAt bus table home k → Earlier table j k → (table j).e ≤ (table k).s

  step : (k : ℕ) → ((p : ℕ) → Earlier table p k → Waits p) → Waits k
  step k before j at_j at_k earlier = elim (before_at bus table timed home k) [
    | inl none ↦ absurd (none j at_j earlier)
    | inr last ↦ behind last.0 last.1
  ]
    where
      behind : (p : ℕ) → IsBeforeAt bus table home p k → (table j).e ≤ (table k).s
      behind p last =
          let starts = timed.behind home p k at_k last in
          let lasts = timed.served home p last.at in
          let after : (table p).e ≤ (table k).s = omega arith in
          elim (earlier_or table j p) [
            | inl same ↦ let e : (table j).e ≡ (table p).e = ap (λ n. (table n).e) same in omega arith
            | inr (inl less) ↦ let held : (table j).e ≤ (table p).s = before p last.earlier j at_j last.at less in omega arith
            | inr (inr more) ↦ absurd (last.none_between j at_j more earlier)
          ]

  at_time : (t : ℕ) → ((k : ℕ) → (table k).a < t → Waits k) → (c k : ℕ) → (table k).a ≡ t → k < c → Waits k
  at_time t before zero k is less = absurd (omega arith)
  at_time t before (suc c) k is less = step k (λ p earlier. elim earlier [
    | inl lower ↦ before p (omega arith)
    | inr even ↦ let same = even.0 in let below = even.1 in at_time t before c p (same ∙ is) (omega arith)
  ])

  before_time : (t k : ℕ) → (table k).a < t → Waits k
  before_time zero k less = absurd (omega arith)
  before_time (suc t) k less = elim (cases_lt (table k).a t) [
    | inl lower ↦ before_time t k lower
    | inr from ↦ at_time t (before_time t) (suc k) k (omega arith) (omega arith)
  ]

  pub waits : (k : ℕ) → Waits k
  waits k = before_time (suc (table k).a) k (omega arith)

  -- what arrived before k is served no later
  no_later : (j k : ℕ) → IsAt bus table home j → IsAt bus table home k → Earlier table j k → (table j).s ≤ (table k).s
  no_later j k at_j at_k earlier =
      let waited : (table j).e ≤ (table k).s = waits k j at_j at_k earlier in
      let lasts = timed.served home j at_j in
      omega arith

-- ---- so the order of service is that of arrival

by_numbers : (x y sx sy ax ay : ℕ) → x ≢ y → is_before (record { first = sx; second = ax }) x (record { first = sy; second = ay }) y ≡ true
    → (ay < ax → sy ≤ sx) → (ay ≡ ax → y < x → sy ≤ sx) → is_before (record { first = ax; second = 0 }) x (record { first = ay; second = 0 }) y ≡ true
by_numbers x y sx sy ax ay apart is later tie = elim (cases_order ax ay) [
  | inl even ↦ elim (cases_order x y) [
    | inl same ↦ absurd (apart same)
    | inr (inl less) ↦ grind (arith, nat_tests)
    | inr (inr more) ↦ let waits : sy ≤ sx = tie (sym even) more in grind (arith, nat_tests)
  ]
  | inr (inl less) ↦ grind (arith, nat_tests)
  | inr (inr more) ↦ let waits : sy ≤ sx = later more in grind (arith, nat_tests)
]

served_routed : (row : BusRow) → row.direct ≡ false → served_rank row ≡ record { first = row.s; second = row.a }
served_routed row is = ap (λ b. record { first = row.s; second = cond b 0 row.a }) is

module _ (bus : Bus) (table : Table) (timed : Timed bus table) (routed : (k : ℕ) → k < length bus.lines → (table k).direct ≡ false) (home : ℕ) where
  at_of : (k : ℕ) → IsOf bus home k → IsAt bus table home k
  at_of k of = record { there = of.there; home_is = of.home_is; routed = routed k of.there }

  pub arrival_order : (ks : List ℕ) → IsServiceOrder bus table home ks → IsArrivalOrder bus table home ks
  arrival_order ks it = let places = places_of bus table home ks it in record {
    all = it.all;
    order = λ i j less below.
        let x = get_or ks i 0 in
        let y = get_or ks j 0 in
        let of_x = (it.all x).0 (Contains-get_or ks i 0 (omega arith)) in
        let of_y = (it.all y).0 (Contains-get_or ks j 0 below) in
        let before : is_before (record { first = (table x).s; second = (table x).a }) x (record { first = (table y).s; second = (table y).a }) y ≡ true =
        ap (λ (r : Rank). is_before r x (record { first = (table y).s; second = (table y).a }) y) (sym (served_routed (table x) (routed x of_x.there)))
        ∙ ap (λ (r : Rank). is_before (served_rank (table x)) x r y) (sym (served_routed (table y) (routed y of_y.there)))
        ∙ it.order i j less below in
        by_numbers x y (table x).s (table y).s (table x).a (table y).a (places.apart i j less below) before
        (λ lower. no_later bus table timed home y x (at_of y of_y) (at_of x of_x) (inl lower))
        (λ even lower. no_later bus table timed home y x (at_of y of_y) (at_of x of_x) (inr (even, lower)));
  }

-- ---- turns on a hop

pub take_turns : (bus : Bus) (table : Table) → Timed bus table → TakeTurns bus table
take_turns bus table timed = record {
  initiators = λ j k there less same. comes_back bus (λ n. n < length bus.lines) table (timed_sofar bus table timed) j k there less same;
  homes = λ home j k at_j at_k earlier. waits bus table timed home k j at_j at_k earlier;
}
