-- Whether an initiator holds a grant goes by the last access that brought it one of that range.
use Rattle.std.proofs.Common.{◌≡◌, ℕ, suc, ◌+◌, ◌<◌, ◌≤◌, ◌⊎◌, Bool, true, false, cond, List, [], ◌∷◌, length, Option, Some, None, refl, sym, ap, ◌∙◌, subst, inl, inr, arith, true≢false, lt-ltb, le-leb}
use Rattle.std.specs.Prelude.{find, count_by, nat_lt, nat_le, slice_index_or}
use Rattle.std.proofs.lemmas.Bool.{cases_order, and_from}
use Rattle.std.proofs.lemmas.List.Sums.{sum_by-cons}
use Rattle.traffic_file.specs.DmiMap.declared.ranges.TargetRange.{TargetRange}
use Rattle.traffic_file.specs.DmiMap.Ranges.{has, range_of, AreApart}
use Rattle.traffic_file.specs.declared.Bus.{Bus}
use Rattle.traffic_file.specs.Traffic.{line_at, initiator_at, invalidate_at, range_at, initiator_of, range_of_line, CanRun}
use Rattle.bus_router.specs.Times.{Table, HoldsAll, IsLeft, IsHeld}
use Rattle.bus_router.specs.TableSofar.{TimedSofar}
use Rattle.bus_router.specs.Making.{IsDone}
use Rattle.bus_router.specs.Holding.{Brings, LastBrings, NoneBrings}
use Rattle.bus_router.proofs.Sofar.{comes_back}

-- ---- an element that is found

pub place_of_found : {X : Type 0} (p : X → Bool) (xs : List X) (r d : X) → find p xs ≡ Some r → (i : ℕ) × (i < length xs) × (slice_index_or xs i d ≡ r)
place_of_found {X} p [] r d is = let gone : ◌≡◌ {A = Option X} None (Some r) = is in cc
place_of_found {X} p (x ∷ xs) r d is = by_test (p x) is (place_of_found p xs r d)
  where
    by_test : (b : Bool) → cond b (Some x) (find p xs) ≡ Some r → (find p xs ≡ Some r → (i : ℕ) × (i < length xs) × (slice_index_or xs i d ≡ r))
        → (i : ℕ) × (i < length (x ∷ xs)) × (slice_index_or (x ∷ xs) i d ≡ r)
    by_test true here rest = let same : x ≡ r = cc in (0, omega arith, same)
    by_test false there rest = behind (rest there)
      where
        behind : (i : ℕ) × (i < length xs) × (slice_index_or xs i d ≡ r) → (i : ℕ) × (i < length (x ∷ xs)) × (slice_index_or (x ∷ xs) i d ≡ r)
        behind found = (suc found.0, let below = found.1 in omega arith, found.2)

-- the home of an access is one of the targets
pub home_there : (bus : Bus) → CanRun bus → (k : ℕ) (range : TargetRange) → range_of_line bus k ≡ Some range → range.target < length bus.targets
home_there bus can k range is =
    let found = place_of_found (has (line_at bus k).address) bus.map range (range_of 0 0 0) is in
    let below = found.1 in
    let mapped = can.mapped in
    let numbered = can.numbered found.0 (omega arith) in
    let same : (range_at bus found.0).target ≡ range.target = ap (λ (r : TargetRange). r.target) found.2 in
    omega arith

-- ---- an element that is found, and the only one that passes another test

module _ {X : Type 0} (p q : X → Bool) (r : X) (passes : q r ≡ true) where
  counted_found : (xs : List X) → find p xs ≡ Some r → 1 ≤ count_by q xs
  counted_found [] is = let no : ◌≡◌ {A = Option X} None (Some r) = is in cc
  counted_found (x ∷ xs) is = by_test (p x) is (counted_found xs)
    where
      by_test : (b : Bool) → cond b (Some x) (find p xs) ≡ Some r → (find p xs ≡ Some r → 1 ≤ count_by q xs) → 1 ≤ count_by q (x ∷ xs)
      by_test true here rest =
          let same : x ≡ r = cc in
          let sums = sum_by-cons (λ (y : X). cond (q y) 1 0) x xs in
          let one : cond {A = ℕ} (q x) 1 0 ≡ 1 = ap (λ b. cond {A = ℕ} b 1 0) (ap q same ∙ passes) in
          omega arith
      by_test false there rest = let sums = sum_by-cons (λ (y : X). cond (q y) 1 0) x xs in let some = rest there in omega arith

  pub found_alone : (xs : List X) → find p xs ≡ Some r → count_by q xs ≤ 1 → find q xs ≡ Some r
  found_alone [] is few = is
  found_alone (x ∷ xs) is few = by_test (p x) is (q x) refl (found_alone xs)
    where
      by_test : (b : Bool) → cond b (Some x) (find p xs) ≡ Some r → (c : Bool) → q x ≡ c
          → (find p xs ≡ Some r → count_by q xs ≤ 1 → find q xs ≡ Some r) → cond c (Some x) (find q xs) ≡ Some r
      by_test true here true also rest = here
      by_test true here false not rest = let same : x ≡ r = cc in absurd (true≢false (sym (ap q same ∙ passes) ∙ not))
      by_test false there true also rest =
          let sums = sum_by-cons (λ (y : X). cond (q y) 1 0) x xs in
          let one : cond {A = ℕ} (q x) 1 0 ≡ 1 = ap (λ b. cond {A = ℕ} b 1 0) also in
          let some = counted_found xs there in
          absurd (omega arith)
      by_test false there false not rest = let sums = sum_by-cons (λ (y : X). cond (q y) 1 0) x xs in rest there (omega arith)

module _ (bus : Bus) (can : CanRun bus) (apart : AreApart bus.map) where
  -- the range of one access is that of each that it holds whole
  pub same_range : (range : TargetRange) (k j : ℕ) → range_of_line bus k ≡ Some range → j < length bus.lines → HoldsAll range (line_at bus j) → range_of_line bus j ≡ Some range
  same_range range k j is there whole =
      found_alone (has (line_at bus k).address) (has (line_at bus j).address) range
      (let low = whole.low in let high = whole.high in let some = can.some j there in
      and_from (nat_le range.low (line_at bus j).address) (nat_lt (line_at bus j).address (range.low + range.size)) (le-leb range.low (line_at bus j).address low) (lt-ltb (line_at bus j).address (range.low + range.size) (omega arith)))
      bus.map is (apart.once (line_at bus j).address)

  module _ (table : Table) (timed : TimedSofar bus (IsDone table) table) (k time : ℕ) (there : k < length bus.lines)
      (closed : (j : ℕ) → j < k → initiator_of bus j ≡ initiator_of bus k → IsDone table j)
      (back : (j : ℕ) → j < k → initiator_of bus j ≡ initiator_of bus k → (table j).r ≤ time)
      (range : TargetRange) (home_is : range_of_line bus k ≡ Some range) where
    -- what the last one brought is there
    pub held_from : (initiator_at bus (initiator_of bus k)).dmi ≡ true → HoldsAll range (line_at bus k)
        → (j : ℕ) → LastBrings bus table range (initiator_of bus k) k j → IsLeft bus range (table j).e time → IsHeld bus table k time
    held_from keeps whole j last left = record {
      keeps = keeps;
      range = range;
      home_is = home_is;
      whole = whole;
      since = j;
      granted = record {
        earlier = last.earlier;
        same = last.brings.same;
        home_is = same_range range k j home_is (let less = last.earlier in omega arith) last.brings.done;
        routed = last.brings.routed;
        done = last.brings.done;
        back = back j last.earlier last.brings.same;
        left = left;
      };
    }

    same_as : (held : IsHeld bus table k time) → held.range ≡ range
    same_as held = let both : Some held.range ≡ Some range = sym held.home_is ∙ home_is in cc

    brought : (held : IsHeld bus table k time) → Brings bus table range (initiator_of bus k) held.since
    brought held = record {
      same = held.granted.same;
      routed = held.granted.routed;
      done = subst (λ (r : TargetRange). HoldsAll r (line_at bus held.since)) (same_as held) held.granted.done;
    }

    pub whole_of : IsHeld bus table k time → HoldsAll range (line_at bus k)
    whole_of held = subst (λ (r : TargetRange). HoldsAll r (line_at bus k)) (same_as held) held.whole

    pub some_brings : NoneBrings bus table range (initiator_of bus k) k → IsHeld bus table k time → ⊥
    some_brings none held = none held.since held.granted.earlier (brought held)

    -- it is taken away later than an earlier one
    pub left_of_last : (j : ℕ) → LastBrings bus table range (initiator_of bus k) k j → IsHeld bus table k time → IsLeft bus range (table j).e time
    left_of_last j last held i its from to =
        subst (λ (r : TargetRange). IsLeft bus r (table held.since).e time) (same_as held) held.granted.left i its (by_place (cases_order held.since j)) to
      where
        by_place : (held.since ≡ j) ⊎ ((held.since < j) ⊎ (j < held.since)) → (table held.since).e ≤ (invalidate_at bus i).time
        by_place (inl is) = let same : (table held.since).e ≡ (table j).e = ap (λ p. (table p).e) is in omega arith
        by_place (inr (inl less)) =
            let mine = closed j last.earlier last.brings.same in
            let came = comes_back bus (IsDone table) table timed held.since j mine less (held.granted.same ∙ sym last.brings.same) in
            let its_rises = timed.rises held.since (closed held.since held.granted.earlier held.granted.same) in
            let rises = timed.rises j mine in
            let r = its_rises.back in let a = rises.arrives in let s = rises.waits in let e = rises.served in
            omega arith
        by_place (inr (inr more)) = absurd (last.last held.since more held.granted.earlier (brought held))
