-- A range that shares no address with those before it leaves ranges apart.
use Rattle.std.proofs.Common.{◌≡◌, ℕ, ◌+◌, ◌≤◌, ◌<◌, Bool, true, false, cond, List, [], ◌∷◌, ◌++◌, Option, Some, None, refl, sym, ap, ◌∙◌, subst, arith, true≢false, ◌-◌, ◌^◌}
use Rattle.std.specs.Prelude.{nat_lt, nat_le, count_by, find, option_map}
use Rattle.std.proofs.lemmas.Bool.{ltb-true, leb-true, lt-ltb, le-leb, and_parts, and_from, cond-true}
use Rattle.std.proofs.lemmas.List.Folds.{list_all-append}
use Rattle.std.proofs.lemmas.List.Sums.{sum_by-append, sum_by-cons}
use Rattle.dmi_map.specs.declared.ranges.TargetRange.{TargetRange}
use Rattle.dmi_map.specs.declared.ranges.MapStop.TheVariants.{Range, Overlap}
use Rattle.dmi_map.specs.Ranges.{has, shares, is_range, range_of, AreApart, overlapped, refusal}

-- an address of both is shared
pub shared : (address low size target : ℕ) (range : TargetRange) → has address (range_of low size target) ≡ true → has address range ≡ true → shares low size range ≡ true
shared address low size target range mine its =
    let my = and_parts (nat_le low address) (nat_lt address (low + size)) mine in
    let other = and_parts (nat_le range.low address) (nat_lt address (range.low + range.size)) its in
    let my_low : low ≤ address = leb-true low address my.0 in
    let my_end : address < low + size = ltb-true address (low + size) my.1 in
    let its_low : range.low ≤ address = leb-true range.low address other.0 in
    let its_end : address < range.low + range.size = ltb-true address (range.low + range.size) other.1 in
    and_from (nat_lt low (range.low + range.size)) (nat_lt range.low (low + size)) (lt-ltb low (range.low + range.size) (omega arith)) (lt-ltb range.low (low + size) (omega arith))

some_none : {A : Type 0} {x : A} → Some x ≡ None → ⊥
some_none is = cc

-- where no range shares an address with the new one, none has an address of it
pub none_has : (address low size target : ℕ) (ranges : List TargetRange) → has address (range_of low size target) ≡ true → find (shares low size) ranges ≡ None → count_by (has address) ranges ≡ 0
none_has address low size target [] mine none = refl
none_has address low size target (range ∷ ranges) mine none =
    sum_by-cons (λ (range : TargetRange). cond (has address range) 1 0) range ranges
    ∙ by_test (shares low size range) refl (has address range) refl none (none_has address low size target ranges mine)
  where
    by_test : (b : Bool) → shares low size range ≡ b → (h : Bool) → has address range ≡ h → cond b (Some range) (find (shares low size) ranges) ≡ None
        → (find (shares low size) ranges ≡ None → count_by (has address) ranges ≡ 0) → cond h 1 0 + count_by (has address) ranges ≡ 0
    by_test true is h had found rest = absurd (some_none found)
    by_test false is true had found rest = absurd (true≢false (sym (shared address low size target range mine had) ∙ is))
    by_test false is false had found rest = let zero_of : count_by (has address) ranges ≡ 0 = rest found in omega arith

pub apart_added : (low size target : ℕ) (ranges : List TargetRange) → is_range low size ≡ true → find (shares low size) ranges ≡ None → AreApart ranges → AreApart (ranges ++ range_of low size target ∷ [])
apart_added low size target ranges is none apart = record {
  each = list_all-append (λ (range : TargetRange). is_range range.low range.size) ranges (range_of low size target ∷ []) ∙ and_from _ _ apart.each (and_from _ _ is refl);
  once = λ address. subst_le (sum_by-append (λ (range : TargetRange). cond (has address range) 1 0) ranges (range_of low size target ∷ []))
      (by_case address (has address (range_of low size target)) refl);
}
  where
    subst_le : {a b : ℕ} → a ≡ b → b ≤ 1 → a ≤ 1
    subst_le is h = omega arith

    by_case : (address : ℕ) (b : Bool) → has address (range_of low size target) ≡ b → count_by (has address) ranges + (0 + cond b 1 0) ≤ 1
    by_case address true mine = let zero_of : count_by (has address) ranges ≡ 0 = none_has address low size target ranges mine none in omega arith
    by_case address false mine = let one_of : count_by (has address) ranges ≤ 1 = apart.once address in omega arith

-- ---- refusals

pub in_range : (low size : ℕ) → (size ≡ 0 → ⊥) → size - 1 ≤ 18446744073709551615 - low → low < 2 ^ 64 → is_range low size ≡ true
in_range low size some fits below = and_from (nat_le 1 size) (nat_le (low + size) (2 ^ 64)) (le-leb 1 size (omega arith)) (le-leb (low + size) (2 ^ 64) (omega arith))

module _ (ranges : List TargetRange) (low size : ℕ) (is : is_range low size ≡ true) where
  by_overlap : refusal ranges low size ≡ option_map Overlap (overlapped ranges low size)
  by_overlap = cond-true (is_range low size) (option_map Overlap (overlapped ranges low size)) (Some Range) is

  pub overlaps : (other : ℕ) → Some other ≡ overlapped ranges low size → refusal ranges low size ≡ Some (Overlap other)
  overlaps other found = by_overlap ∙ ap (option_map Overlap) (sym found)

  pub is_accepted : None ≡ overlapped ranges low size → refusal ranges low size ≡ None
  is_accepted none = by_overlap ∙ ap (option_map Overlap) (sym none)

pub none_shares : (ranges : List TargetRange) (low size : ℕ) → None ≡ overlapped ranges low size → find (shares low size) ranges ≡ None
none_shares ranges low size none = by_case (find (shares low size) ranges) none
  where
    by_case : (o : Option TargetRange) → None ≡ option_map (λ (range : TargetRange). range.target) o → o ≡ None
    by_case None is = refl
    by_case (Some range) is = absurd (some_none (sym is))

-- the ranges with the new one where there was memory, or as before
pub apart_pushed : (low size target : ℕ) (ranges new : List TargetRange) (b : Bool) → new ≡ cond b (ranges ++ range_of low size target ∷ []) ranges
    → is_range low size ≡ true → find (shares low size) ranges ≡ None → AreApart ranges → AreApart new
apart_pushed low size target ranges new true is fits none apart = subst AreApart (sym is) (apart_added low size target ranges fits none apart)
apart_pushed low size target ranges new false is fits none apart = subst AreApart (sym is) apart
