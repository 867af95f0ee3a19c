-- What is left of regions, and that regions stay regions.
use Rattle.std.proofs.Common.{◌≡◌, ℕ, ◌+◌, ◌-◌, ◌^◌, ◌<◌, ◌≤◌, Bool, true, false, cond, not, ◌&&◌, List, [], ◌∷◌, ◌++◌, length, refl, sym, ap, ◌∙◌, arith}
use Rattle.std.specs.Prelude.{filter, count_by, nat_le}
use Rattle.std.specs.List.{list_all}
use Rattle.std.proofs.lemmas.Bool.{and_parts, and_from, le-leb}
use Rattle.std.proofs.lemmas.List.{length-append}
use Rattle.std.proofs.lemmas.List.Sums.{length-filter}
use Rattle.std.proofs.lemmas.List.Filters.{length-filter_both}
use Rattle.std.proofs.lemmas.List.Folds.{list_all-append}
use Rattle.dmi_map.specs.declared.grants.Region.{Region}
use Rattle.dmi_map.specs.Regions.{is_region, reaches, left_by, region_of, AreRegions}

pub all_of_filter : {X : Type 0} (p q : X → Bool) (xs : List X) → list_all p xs ≡ true → list_all p (filter q xs) ≡ true
all_of_filter p q [] all = refl
all_of_filter p q (x ∷ xs) all = by_test (q x) (all_of_filter p q xs parts.1)
  where
    parts : (p x ≡ true) × (list_all p xs ≡ true)
    parts = and_parts (p x) (list_all p xs) all

    by_test : (b : Bool) → list_all p (filter q xs) ≡ true → list_all p (cond b (x ∷ filter q xs) (filter q xs)) ≡ true
    by_test true rest = and_from (p x) (list_all p (filter q xs)) parts.0 rest
    by_test false rest = rest

pub taken : (low high : ℕ) (regions : List Region) → length (left_by low high regions) + count_by (reaches low high) regions ≡ length regions
taken low high regions =
    ap (λ n. length (left_by low high regions) + n) (sym (length-filter (reaches low high) regions))
    ∙ length-filter_both (λ region. not (reaches low high region)) (reaches low high) other regions
  where
    other : (region : Region) → reaches low high region ≡ not (not (reaches low high region))
    other region = twice (reaches low high region)
      where
        twice : (b : Bool) → b ≡ not (not b)
        twice true = refl
        twice false = refl

pub still : (low high : ℕ) (regions left : List Region) → left ≡ left_by low high regions → AreRegions regions → AreRegions left
still low high regions left is are = rw is (record {
  each = all_of_filter is_region (λ region. not (reaches low high region)) regions are.each;
  few = let counted = taken low high regions in let few = are.few in omega arith;
})

pub one_more : (regions more : List Region) (i target low size : ℕ) → more ≡ regions ++ region_of i target low size ∷ []
    → 1 ≤ size → low + size ≤ 2 ^ 64 → length regions < 2 ^ 32 - 1 → AreRegions regions → AreRegions more
one_more regions more i target low size is some within few are = rw is (record {
  each = list_all-append is_region regions (region_of i target low size ∷ [])
      ∙ ap (λ b. b && list_all is_region (region_of i target low size ∷ [])) are.each
      ∙ and_from (is_region (region_of i target low size)) true (and_from (nat_le 1 size) (nat_le (low + size) (2 ^ 64)) (le-leb 1 size some) (le-leb (low + size) (2 ^ 64) within)) refl;
  few = let counted = length-append regions (region_of i target low size ∷ []) in omega arith;
})
