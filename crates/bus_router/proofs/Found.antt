-- A range that was found is one.
use Rattle.std.proofs.Common.{◌≡◌, ℕ, ◌+◌, ◌^◌, ◌≤◌, Bool, true, false, cond, List, [], ◌∷◌, Option, Some, sym, subst}
use Rattle.std.specs.Prelude.{find}
use Rattle.std.specs.List.{list_all}
use Rattle.std.proofs.lemmas.Bool.{and_parts, leb-true}
use Rattle.std.proofs.lemmas.Option.{same_Some}
use Rattle.traffic_file.specs.DmiMap.declared.ranges.TargetRange.{TargetRange}
use Rattle.traffic_file.specs.DmiMap.Ranges.{has, is_range, range_with}

abbrev test : TargetRange → Bool
test range = is_range range.low range.size

found_step : (first range : TargetRange) (rest : Option TargetRange) (b : Bool) → test first ≡ true → (rest ≡ Some range → test range ≡ true)
    → cond b (Some first) rest ≡ Some range → test range ≡ true
found_step first range rest true here later is = subst (λ (r : TargetRange). test r ≡ true) (same_Some first range is) here
found_step first range rest false here later is = later is

found : (address : ℕ) (ranges : List TargetRange) (range : TargetRange) → list_all test ranges ≡ true → find (has address) ranges ≡ Some range → test range ≡ true
found address [] range all is = cc
found address (first ∷ ranges) range all is =
    let parts = and_parts (test first) (list_all test ranges) all in
    found_step first range (find (has address) ranges) (has address first) parts.0 (found address ranges range parts.1) is

pub found_fits : (address : ℕ) (ranges : List TargetRange) (range : TargetRange) → list_all test ranges ≡ true → Some range ≡ range_with address ranges → range.low + range.size ≤ 2 ^ 64
found_fits address ranges range all is = leb-true (range.low + range.size) (2 ^ 64) (and_parts _ _ (found address ranges range all (sym is))).1
