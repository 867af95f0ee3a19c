-- Two lists of the grants that are left have the same regions, each once.
use Rattle.std.proofs.Common.{◌≡◌, ◌≢◌, ℕ, zero, suc, ◌+◌, ◌<◌, ◌⊎◌, Bool, true, false, cond, List, [], ◌∷◌, length, Some, refl, sym, ap, ◌∙◌, subst, inl, inr, arith}
use Rattle.std.specs.Prelude.{Contains, slice_get, count_by}
use Rattle.std.proofs.lemmas.List.Sums.{sum_by-cons}
use Rattle.std.proofs.lemmas.Option.{slice_get-get_or}
use Rattle.traffic_file.specs.DmiMap.declared.grants.Region.{Region}
use Rattle.traffic_file.specs.DmiMap.Regions.{same}
use Rattle.traffic_file.specs.declared.Bus.{Bus}
use Rattle.bus_router.specs.Times.{Table}
use Rattle.bus_router.specs.Leaving.{AreLeft}
use Rattle.bus_router.proofs.Regions.{same_is, same_self}

abbrev AreOnce : List Region → Type 0
AreOnce regions = (i j : ℕ) (region : Region) → i < j → j < length regions → slice_get regions i ≡ Some region → slice_get regions j ≢ Some region

-- how often a region stands in the list: not at all, or once
module _ (region : Region) where
  here : (other : Region) (regions : List Region) → same region other ≡ true → count_by (same region) (other ∷ regions) ≡ 1 + count_by (same region) regions
  here other regions is = sum_by-cons (λ (r : Region). cond (same region r) 1 0) other regions ∙ ap (λ b. cond b 1 0 + count_by (same region) regions) is

  elsewhere : (other : Region) (regions : List Region) → same region other ≡ false → count_by (same region) (other ∷ regions) ≡ count_by (same region) regions
  elsewhere other regions is = sum_by-cons (λ (r : Region). cond (same region r) 1 0) other regions ∙ ap (λ b. cond b 1 0 + count_by (same region) regions) is ∙ omega arith

  later : (other : Region) (regions : List Region) → Contains regions region → Contains (other ∷ regions) region
  later other regions (i, below, is) = (suc i, omega arith, is)

  none : (regions : List Region) → (Contains regions region → ⊥) → count_by (same region) regions ≡ 0
  none [] lacks = refl
  none (other ∷ regions) lacks = by_test (same region other) refl (none regions (λ held. lacks (later other regions held)))
    where
      by_test : (b : Bool) → same region other ≡ b → count_by (same region) regions ≡ 0 → count_by (same region) (other ∷ regions) ≡ 0
      by_test true is rest = absurd (lacks (0, omega arith, sym (same_is region other is)))
      by_test false is rest = elsewhere other regions is ∙ rest

  tail_once : (other : Region) (regions : List Region) → AreOnce (other ∷ regions) → AreOnce regions
  tail_once other regions once i j it less below one two = once (suc i) (suc j) it (omega arith) (omega arith) one two

  never_again : (other : Region) (regions : List Region) → AreOnce (other ∷ regions) → region ≡ other → Contains regions region → ⊥
  never_again other regions once e (i, below, is) =
      once 0 (suc i) region (omega arith) (omega arith) (ap Some (sym e)) (slice_get-get_or regions i region below ∙ ap Some is)

  behind : (other : Region) (regions : List Region) → same region other ≡ false → Contains (other ∷ regions) region → Contains regions region
  behind other regions is (zero, below, at) = let yes : same region other ≡ true = ap (same region) at ∙ same_self region in cc
  behind other regions is (suc i, below, at) = (i, omega arith, at)

  once : (regions : List Region) → AreOnce regions → Contains regions region → count_by (same region) regions ≡ 1
  once [] are (i, below, is) = absurd (omega arith)
  once (other ∷ regions) are held = by_test (same region other) refl (once regions (tail_once other regions are))
    where
      by_test : (b : Bool) → same region other ≡ b → (Contains regions region → count_by (same region) regions ≡ 1) → count_by (same region) (other ∷ regions) ≡ 1
      by_test true is rest = here other regions is ∙ ap (λ n. 1 + n) (none regions (λ again. never_again other regions are (same_is region other is) again))
      by_test false is rest = elsewhere other regions is ∙ rest (behind other regions is held)

  is_there : (regions : List Region) → Contains regions region ⊎ (Contains regions region → ⊥)
  is_there [] = inr (λ held. let below = held.1 in absurd (omega arith))
  is_there (other ∷ regions) = by_test (same region other) refl (is_there regions)
    where
      by_test : (b : Bool) → same region other ≡ b → Contains regions region ⊎ (Contains regions region → ⊥) → Contains (other ∷ regions) region ⊎ (Contains (other ∷ regions) region → ⊥)
      by_test true is rest = inl (0, omega arith, sym (same_is region other is))
      by_test false is (inl held) = inl (later other regions held)
      by_test false is (inr lacks) = inr (λ held. lacks (behind other regions is held))

module _ (bus : Bus) (table : Table) where
  held_too : (one other : List Region) → AreLeft bus table one → AreLeft bus table other → (region : Region) → Contains one region → Contains other region
  held_too one other first second region held =
      let its = first.each region held in
      subst (λ r. Contains other r) (sym its.3) (second.all its.0 its.1 its.2)

  pub same_grants : (one other : List Region) → AreLeft bus table one → AreLeft bus table other → (region : Region) → count_by (same region) one ≡ count_by (same region) other
  same_grants one other first second region = elim (is_there region one) [
    | inl held ↦ once region one first.once held ∙ sym (once region other second.once (held_too one other first second region held))
    | inr lacks ↦ none region one lacks ∙ sym (none region other (λ held. lacks (held_too other one second first region held)))
  ]
