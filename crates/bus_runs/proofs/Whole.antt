-- An access is OK where its home has all its bytes.
use Rattle.std.proofs.Common.{◌≡◌, ◌≢◌, ℕ, ◌+◌, ◌-◌, ◌%◌, ◌^◌, ◌<◌, ◌≤◌, ◌↔◌, ◌⊎◌, Bool, true, false, cond, List, [], ◌∷◌, Option, None, Some, length, get_or, take, refl, sym, ap, ◌∙◌, subst, inl, inr, arith, true≢false}
use Rattle.std.specs.Prelude.{◌==◌, ℤ, nat_le, option_map, replicate}
use Rattle.std.specs.Option.{option_map_or}
use Rattle.std.specs.List.{list_all}
use Rattle.std.specs.Ordering.{int_eq}
use Rattle.std.proofs.Math.Nat.{mod-eq_of_lt}
use Rattle.std.proofs.lemmas.Nat.{mod_below}
use Rattle.std.proofs.lemmas.Bool.{and_parts, leb-true, eqb-true}
use Rattle.std.proofs.lemmas.Bool.Decides.{Decides-int_eq}
use Rattle.std.proofs.lemmas.List.{get_or_default, length-replicate}
use Rattle.std.proofs.lemmas.List.Folds.{list_all_at}
use Rattle.bus_router.specs.PayloadPool.declared.payload.Payload.{Payload}
use Rattle.bus_router.specs.PayloadPool.declared.payload.TheConstants.{READ, WRITE, IGNORE, OK, ADDRESS, BURST, BYTE_ENABLE}
use Rattle.bus_router.specs.PayloadPool.Transfer.{address_of, leaves, status_of}
use Rattle.bus_router.specs.DmiMap.Accesses.{seen_from, memory_accessed}
use Rattle.bus_router.proofs.PayloadPool.LawLemmas.{place-done, cause-address, length-memory}
use Rattle.bus_router.specs.DmiMap.declared.ranges.TargetRange.{TargetRange}
use Rattle.bus_router.specs.DmiMap.Ranges.{has, range_of, is_range, AreApart}
use Rattle.bus_router.specs.TrafficFile.declared.Bus.{Bus}
use Rattle.bus_router.specs.TrafficFile.Traffic.{CanRun, line_at, target_at, range_of_line, home_of}
use Rattle.bus_router.specs.TextLines.Words.{length_of}
use Rattle.bus_router.specs.TextLines.declared.actions.BusAction.{BusAction}
use Rattle.bus_router.specs.TextLines.declared.actions.BusAction.TheVariants.{Get, Put}
use Rattle.bus_router.specs.Times.{Table}
use Rattle.bus_router.proofs.Held.{home_there, place_of_found}
use Rattle.bus_router.specs.Answers.{asked_by, asked, low_of, memory_from, memory_behind, payload_at, AreAnswers}
use Rattle.bus_router.proofs.AnswerPlaces.{low_within}
use Rattle.bus_runs.specs.Turns.{IsWhole}

-- ---- what an access asks for

asked_length : (address : ℕ) (action : BusAction) → length (asked_by address action).bytes ≡ length_of action
asked_length address (Get len) = length-replicate len 0
asked_length address (Put bytes) = refl

asked_width : (address : ℕ) (action : BusAction) → (asked_by address action).width ≡ length_of action
asked_width address (Get len) = refl
asked_width address (Put bytes) = refl

asked_address : (address : ℕ) (action : BusAction) → (asked_by address action).address ≡ address
asked_address address (Get len) = refl
asked_address address (Put bytes) = refl

differ : (x y : ℤ) → int_eq x y ≡ false → x ≡ y → ⊥
differ x y apart is = true≢false (sym ((Decides-int_eq x y).1 is) ∙ apart)

never_ignored : (address low : ℕ) (action : BusAction) → (seen_from low (asked_by address action)).command ≢ IGNORE
never_ignored address low (Get len) is = differ READ IGNORE refl is
never_ignored address low (Put bytes) is = differ WRITE IGNORE refl is

flat_not : (n : ℕ) → 1 ≤ n → (n == 0) ≡ false
flat_not n some = by_test (n == 0) refl
  where
    by_test : (b : Bool) → (n == 0) ≡ b → b ≡ false
    by_test false is = refl
    by_test true is = let none = eqb-true n 0 is in absurd (omega arith)

one_of_two : (flat out : Bool) → flat ≡ false → (cond flat BURST (cond false BYTE_ENABLE (cond out ADDRESS OK)) ≡ OK) ⊎ (cond flat BURST (cond false BYTE_ENABLE (cond out ADDRESS OK)) ≡ ADDRESS)
one_of_two true out is = absurd (true≢false is)
one_of_two false true is = inr refl
one_of_two false false is = inl refl

-- its status is one of two
ends : (address low size : ℕ) (action : BusAction) → 1 ≤ length_of action
    → (status_of (seen_from low (asked_by address action)) size ≡ OK) ⊎ (status_of (seen_from low (asked_by address action)) size ≡ ADDRESS)
ends address low size (Get len) some = one_of_two (len == 0) (leaves (seen_from low (asked_by address (Get len))) size) (flat_not len some)
ends address low size (Put bytes) some = one_of_two (length bytes == 0) (leaves (seen_from low (asked_by address (Put bytes))) size) (flat_not (length bytes) some)

module _ (address low size : ℕ) (action : BusAction) (some : 1 ≤ length_of action) (within : low ≤ address) where
  place_of : (i : ℕ) → address_of (seen_from low (asked_by address action)) i ≡ (address - low) + i % length_of action
  place_of i = ap (λ a. (a - low) + i % (asked_by address action).width) (asked_address address action) ∙ ap (λ w. (address - low) + i % w) (asked_width address action)

  fits : status_of (seen_from low (asked_by address action)) size ≡ OK → address + length_of action ≤ low + size
  fits done =
      let long = asked_length address action in
      let there = place-done (seen_from low (asked_by address action)) size (length_of action - 1) done (never_ignored address low action) (omega arith) in
      let at = place_of (length_of action - 1) in
      let same : (length_of action - 1) % length_of action ≡ length_of action - 1 = mod-eq_of_lt (omega arith) in
      omega arith

  done : size ≤ 2 ^ 64 → address + length_of action ≤ low + size → status_of (seen_from low (asked_by address action)) size ≡ OK
  done small all = elim (ends address low size action some) [
    | inl is ↦ is
    | inr is ↦
        let found = cause-address (seen_from low (asked_by address action)) size is in
        let at = place_of found.0 in
        let below = mod_below found.0 (length_of action) (omega arith) in
        elim found.1.past [ inl far ↦ absurd (omega arith) | inr past ↦ absurd (omega arith) ]
  ]

-- ---- memories keep their size

long_from : (bus : Bus) (ks : List ℕ) (memory : List ℕ) → length (memory_from bus memory ks) ≡ length memory
long_from bus [] memory = refl
long_from bus (k ∷ ks) memory =
    long_from bus ks (memory_accessed (low_of bus k) (asked bus k) memory) ∙ length-memory (seen_from (low_of bus k) (asked bus k)) memory

long_behind : (bus : Bus) (home : ℕ) (ks : List ℕ) → length (memory_behind bus home ks) ≡ (target_at bus home).size
long_behind bus home ks = long_from bus ks (replicate (target_at bus home).size 0) ∙ length-replicate (target_at bus home).size 0

-- ---- ranges

each_is : (p : TargetRange → Bool) (xs : List TargetRange) (i : ℕ) (d : TargetRange) → i < length xs → list_all p xs ≡ true → p (get_or xs i d) ≡ true
each_is p xs i d below all = by_test (p (get_or xs i d)) refl
  where
    by_test : (b : Bool) → p (get_or xs i d) ≡ b → b ≡ true
    by_test true is = refl
    by_test false is = absurd (true≢false (sym all ∙ list_all_at p xs i d below is))

module _ (bus : Bus) (can : CanRun bus) (apart : AreApart bus.map) (k : ℕ) (range : TargetRange) (is : range_of_line bus k ≡ Some range) where
  home_size : range.size ≡ (target_at bus range.target).size
  home_size =
      let found = place_of_found (has (line_at bus k).address) bus.map range (range_of 0 0 0) is in
      let below = found.1 in
      let mapped = can.mapped in
      let within : found.0 < length bus.targets = omega arith in
      let target : found.0 ≡ range.target = sym (can.numbered found.0 within) ∙ ap (λ (r : TargetRange). r.target) found.2 in
      sym (ap (λ (r : TargetRange). r.size) found.2) ∙ can.sized found.0 within ∙ ap (λ t. (target_at bus t).size) target

  small : range.size ≤ 2 ^ 64
  small =
      let found = place_of_found (has (line_at bus k).address) bus.map range (range_of 0 0 0) is in
      let each = each_is (λ r. is_range r.low r.size) bus.map found.0 (range_of 0 0 0) found.1 apart.each in
      let its : is_range range.low range.size ≡ true = subst (λ (r : TargetRange). is_range r.low r.size ≡ true) found.2 each in
      let both = and_parts (nat_le 1 range.size) (nat_le (range.low + range.size) (2 ^ 64)) its in
      let end : range.low + range.size ≤ 2 ^ 64 = leb-true (range.low + range.size) (2 ^ 64) both.1 in
      omega arith

-- ---- an access

module _ (bus : Bus) (can : CanRun bus) (apart : AreApart bus.map) (table : Table) (payloads : List Payload) (it : AreAnswers bus table payloads) (k : ℕ) (there : k < length bus.lines) where
  its_status : (range : TargetRange) → range_of_line bus k ≡ Some range → (payload_at payloads k).status ≡ status_of (seen_from range.low (asked bus k)) range.size
  its_status range is =
      let home_is : home_of bus k ≡ Some range.target = ap (option_map (λ (r : TargetRange). r.target)) is in
      let its = it.served range.target (home_there bus can k range is) in
      let held = (its.order.all k).1 (record { there = there; home_is = home_is }) in
      let at : get_or its.ks held.0 0 ≡ k = get_or_default its.ks held.0 0 k held.1 ∙ held.2 in
      let low : low_of bus k ≡ range.low = ap (λ o. option_map_or (λ (r : TargetRange). r.low) o 0) is in
      ap (λ n. (payload_at payloads n).status) (sym at)
      ∙ ap (λ (p : Payload). p.status) (its.each held.0 held.1)
      ∙ ap (λ n. status_of (seen_from (low_of bus n) (asked bus n)) (length (memory_behind bus range.target (take held.0 its.ks)))) at
      ∙ ap (λ n. status_of (seen_from n (asked bus k)) (length (memory_behind bus range.target (take held.0 its.ks)))) low
      ∙ ap (λ n. status_of (seen_from range.low (asked bus k)) n) (long_behind bus range.target (take held.0 its.ks) ∙ sym (home_size bus can apart k range is))

  low_below : (range : TargetRange) → range_of_line bus k ≡ Some range → range.low ≤ (line_at bus k).address
  low_below range is =
      let low : low_of bus k ≡ range.low = ap (λ o. option_map_or (λ (r : TargetRange). r.low) o 0) is in
      let within = low_within bus k in
      omega arith

  whole_of : (o : Option TargetRange) → range_of_line bus k ≡ o → (payload_at payloads k).status ≡ OK → IsWhole bus k
  whole_of None is done =
      let home_is : home_of bus k ≡ None = ap (option_map (λ (r : TargetRange). r.target)) is in
      absurd (differ ADDRESS OK refl (sym (ap (λ (p : Payload). p.status) (it.nowhere k there home_is)) ∙ done))
  whole_of (Some range) is done = record {
    range = range;
    home_is = is;
    all = record {
      low = low_below range is;
      high = fits (line_at bus k).address range.low range.size (line_at bus k).action (can.some k there) (low_below range is) (sym (its_status range is) ∙ done);
    };
  }

  pub ok_whole : ((payload_at payloads k).status ≡ OK) ↔ IsWhole bus k
  ok_whole = (
    (λ is. whole_of (range_of_line bus k) refl is),
    (λ whole.
        let range = whole.range in
        let all = whole.all in
        its_status range whole.home_is
        ∙ done (line_at bus k).address range.low range.size (line_at bus k).action (can.some k there) (low_below range whole.home_is) (small bus can apart k range whole.home_is) all.high),
  )
