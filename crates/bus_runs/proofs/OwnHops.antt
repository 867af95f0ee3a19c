-- Each access has its entries on its own hops alone.
use Rattle.std.proofs.Common.{◌≡◌, ◌≢◌, ℕ, zero-add, ◌+◌, ◌-◌, ◌<◌, ◌≤◌, Bool, true, false, cond, not, ◌&&◌, List, [], ◌∷◌, Some, pos, length, get_or, refl, sym, ap, ◌∙◌, inl, inr, arith}
use Rattle.std.specs.Prelude.{◌==◌, filter, Contains}
use Rattle.std.specs.List.{range_with_len}
use Rattle.std.proofs.lemmas.Bool.{cases_lt, eq-eqb}
use Rattle.std.proofs.lemmas.List.{get_or_past}
use Rattle.std.proofs.lemmas.List.FromFn.{length-range_with_len, get_or-range_with_len}
use Rattle.transport_phases.specs.History.{Entry, Call, Return, transaction}
use Rattle.transport_phases.specs.declared.phases.Path.TheVariants.{Forward, Backward}
use Rattle.bus_runs.specs.Hops.{entries_of}
use Rattle.bus_router.specs.TrafficFile.declared.Bus.{Bus}
use Rattle.bus_router.specs.TrafficFile.Traffic.{CanRun, initiator_of, home_of}
use Rattle.bus_router.specs.Times.{Table}
use Rattle.bus_router.proofs.Served.{places_of}
use Rattle.bus_router.proofs.OneAnswer.{home_within}
use Rattle.bus_runs.specs.declared.entries.BusEntry.{BusEntry}
use Rattle.bus_runs.specs.Entries.{IsHopOf, is_routed, is_sent, IsTargetHop, AreHops}
use Rattle.bus_runs.specs.Own.{hop_at, entries_on, HasItsEntries}
use Rattle.bus_runs.proofs.OneList.{each_hop}
use Rattle.bus_runs.proofs.EachOnce.{only, not_equal, passes, fails, none_of, once_of, AreDistinct}

-- ---- the entries of one access among those of several

abbrev kept : Bool → Entry → List Entry → List Entry
kept b e rest = cond b (e ∷ rest) rest

four : (a b c d : Entry) (is_own : Bool) (rest others : List Entry) → rest ≡ others
    → kept is_own a (kept is_own b (kept is_own c (kept is_own d rest))) ≡ cond is_own (a ∷ b ∷ c ∷ d ∷ others) others
four a b c d true rest others is = ap (λ l. a ∷ b ∷ c ∷ d ∷ l) is
four a b c d false rest others is = is

chosen : (j : ℕ) (is_own : Bool) (ks : List ℕ) → cond is_own (entries_of (j ∷ ks)) (entries_of ks) ≡ entries_of (cond is_own (j ∷ ks) ks)
chosen j true ks = refl
chosen j false ks = refl

among : (k : ℕ) (ks : List ℕ) → filter (λ e. transaction e == k) (entries_of ks) ≡ entries_of (only k ks)
among k [] = refl
among k (j ∷ ks) =
    four (Call j Forward (pos 1) false true) (Return j (pos 0) (pos 1) false) (Call j Backward (pos 3) true true) (Return j (pos 2) (pos 3) true)
    (j == k) (filter (λ e. transaction e == k) (entries_of ks)) (entries_of (only k ks)) (among k ks)
    ∙ chosen j (j == k) (only k ks)

module _ (k : ℕ) (p : ℕ → Bool) (ks : List ℕ) (hop : List BusEntry) (is : IsHopOf (filter p ks) hop) where
  on_hop : entries_on hop k ≡ entries_of (only k (filter p ks))
  on_hop = ap (filter (λ e. transaction e == k)) is ∙ among k (filter p ks)

  own : p k ≡ true → AreDistinct ks → Contains ks k → entries_on hop k ≡ entries_of (k ∷ [])
  own pass distinct held = on_hop ∙ ap entries_of (passes p k pass ks ∙ once_of k ks distinct held)

  not_passed : p k ≡ false → entries_on hop k ≡ []
  not_passed fail = on_hop ∙ ap entries_of (fails p k fail ks)

  not_there : (Contains ks k → ⊥) → entries_on hop k ≡ []
  not_there lacks = on_hop ∙ ap entries_of (by_test (p k) refl)
    where
      by_test : (b : Bool) → p k ≡ b → only k (filter p ks) ≡ []
      by_test true pass = passes p k pass ks ∙ none_of k ks lacks
      by_test false fail = fails p k fail ks

-- ---- places

places_distinct : (n : ℕ) → AreDistinct (range_with_len 0 n)
places_distinct n i j less below e =
    let long = length-range_with_len 0 n in
    let one : get_or (range_with_len 0 n) i 0 ≡ i = get_or-range_with_len 0 n i 0 (omega arith) ∙ zero-add i in
    let other : get_or (range_with_len 0 n) j 0 ≡ j = get_or-range_with_len 0 n j 0 (omega arith) ∙ zero-add j in
    let same : i ≡ j = sym one ∙ e ∙ other in
    absurd (omega arith)

place_held : (n k : ℕ) → k < n → Contains (range_with_len 0 n) k
place_held n k below =
    let long = length-range_with_len 0 n in
    (k, omega arith, get_or-range_with_len 0 n k k below ∙ zero-add k)

-- ---- all

module _ (bus : Bus) (table : Table) (hops : List (List BusEntry)) (can : CanRun bus) (all : AreHops bus table hops) (k : ℕ) (there : k < length bus.lines) where
  routed_is : (table k).direct ≡ false → is_routed table k ≡ true
  routed_is is = ap not is

  direct_is : (table k).direct ≡ true → is_routed table k ≡ false
  direct_is is = ap not is

  sent_is : (i : ℕ) → initiator_of bus k ≡ i → (table k).direct ≡ false → is_sent bus table i k ≡ true
  sent_is i e is = ap (λ b. b && is_routed table k) (eq-eqb (initiator_of bus k) i e) ∙ routed_is is

  sent_not : (i : ℕ) → i ≢ initiator_of bus k → is_sent bus table i k ≡ false
  sent_not i apart = ap (λ b. b && is_routed table k) (not_equal (initiator_of bus k) i (λ e. apart (sym e)))

  sent_direct : (i : ℕ) → (table k).direct ≡ true → is_sent bus table i k ≡ false
  sent_direct i is = ap (λ b. (initiator_of bus k == i) && b) (direct_is is) ∙ and_false (initiator_of bus k == i)
    where
      and_false : (b : Bool) → (b && false) ≡ false
      and_false true = refl
      and_false false = refl

  on_initiator : (i : ℕ) → i < length bus.initiators → is_sent bus table i k ≡ false → entries_on (hop_at hops i) k ≡ []
  on_initiator i less fail = not_passed k (is_sent bus table i) (range_with_len 0 (length bus.lines)) (hop_at hops i) (all.initiators i less) fail

  distinct : (home : ℕ) (hop : List BusEntry) (its : IsTargetHop bus table home hop) → AreDistinct its.ks
  distinct home hop its = let places_are = places_of bus table home its.ks its.order in places_are.apart

  on_target : (t : ℕ) → t < length bus.targets → home_of bus k ≢ Some t → entries_on (hop_at hops (length bus.initiators + t)) k ≡ []
  on_target t less apart =
      let its = all.targets t less in
      not_there k (is_routed table) its.ks (hop_at hops (length bus.initiators + t)) its.entries (λ held. let of = (its.order.all k).0 held in apart of.home_is)

  on_target_direct : (t : ℕ) → t < length bus.targets → (table k).direct ≡ true → entries_on (hop_at hops (length bus.initiators + t)) k ≡ []
  on_target_direct t less is =
      let its = all.targets t less in
      not_passed k (is_routed table) its.ks (hop_at hops (length bus.initiators + t)) its.entries (direct_is is)

  -- past the last hop there are no entries
  past : (h : ℕ) → length hops ≤ h → entries_on (hop_at hops h) k ≡ []
  past h from = ap (λ hop. entries_on hop k) (get_or_past hops h [] from)

  none_direct : (table k).direct ≡ true → (h : ℕ) → entries_on (hop_at hops h) k ≡ []
  none_direct is h = elim (cases_lt h (length hops)) [
    | inl below ↦ each_hop bus table hops all (λ n. entries_on (hop_at hops n) k ≡ []) (λ i less. on_initiator i less (sent_direct i is)) (λ t less. on_target_direct t less is) h below
    | inr from ↦ past h from
  ]

  pub has_its_entries : HasItsEntries bus table hops k
  has_its_entries = record {
    initiator = λ is.
        let i = initiator_of bus k in
        own k (is_sent bus table i) (range_with_len 0 (length bus.lines)) (hop_at hops i) (all.initiators i (can.initiators k there))
        (sent_is i refl is) (places_distinct (length bus.lines)) (place_held (length bus.lines) k there);
    home = λ t home_is is.
        let its = all.targets t (home_within bus can k t home_is) in
        own k (is_routed table) its.ks (hop_at hops (length bus.initiators + t)) its.entries
        (routed_is is) (distinct t (hop_at hops (length bus.initiators + t)) its) ((its.order.all k).1 (record { there = there; home_is = home_is }));
    other_initiator = λ i less apart. on_initiator i less (sent_not i apart);
    other_target = λ t apart. elim (cases_lt t (length bus.targets)) [
      | inl less ↦ on_target t less apart
      | inr from ↦ past (length bus.initiators + t) (let many = all.many in omega arith)
    ];
    direct = none_direct;
  }
