-- A region more, where it is not there yet.
use Rattle.std.proofs.Common.{◌≡◌, ◌≢◌, ℕ, zero, suc, ◌+◌, ◌<◌, Bool, true, false, cond, List, [], ◌∷◌, ◌++◌, length, get_or, Some, refl, sym, ap, ◌∙◌, subst, inl, inr, arith}
use Rattle.std.specs.Prelude.{Contains, slice_get, ◌||◌}
use Rattle.std.specs.List.{list_any}
use Rattle.std.proofs.lemmas.Bool.{cases_lt, false≢true}
use Rattle.std.proofs.lemmas.Bool.Decides.{nat_tests}
use Rattle.std.proofs.lemmas.List.{length-append, get_or_push, get_or_append_left}
use Rattle.std.proofs.lemmas.List.Elements.{Contains-append_left, Contains-push, Contains-push_cases}
use Rattle.std.proofs.lemmas.Option.{slice_get-get_or, get_or_from_slice_get}
use Rattle.traffic_file.specs.DmiMap.declared.grants.Region.{Region}
use Rattle.traffic_file.specs.DmiMap.Regions.{same, with_region}
use Rattle.traffic_file.specs.DmiMap.declared.ranges.TargetRange.{TargetRange}
use Rattle.traffic_file.specs.declared.Bus.{Bus}
use Rattle.traffic_file.specs.Traffic.{range_of_line}
use Rattle.bus_router.specs.Times.{Table}
use Rattle.bus_router.specs.Leaving.{LeavesOf, Leaves, granted_by, AreLeft}
use Rattle.bus_router.specs.GrantsSofar.{IsMore, LeftSofar}

pub same_is : (one other : Region) → same one other ≡ true → one ≡ other
same_is one other is =
    let i : one.initiator ≡ other.initiator = grind (arith, nat_tests) in
    let t : one.target ≡ other.target = grind (arith, nat_tests) in
    let l : one.low ≡ other.low = grind (arith, nat_tests) in
    let s : one.size ≡ other.size = grind (arith, nat_tests) in
    ap (λ n. record { initiator = n; target = one.target; low = one.low; size = one.size }) i
    ∙ ap (λ n. record { initiator = other.initiator; target = n; low = one.low; size = one.size }) t
    ∙ ap (λ n. record { initiator = other.initiator; target = other.target; low = n; size = one.size }) l
    ∙ ap (λ n. record { initiator = other.initiator; target = other.target; low = other.low; size = n }) s

pub same_self : (one : Region) → same one one ≡ true
same_self one = grind (arith, nat_tests)

held_step : (region other : Region) (regions : List Region) (b : Bool) → same region other ≡ b → (list_any (same region) regions ≡ true → Contains regions region)
    → (b || list_any (same region) regions) ≡ true → Contains (other ∷ regions) region
held_step region other regions true here rest is = (0, omega arith, sym (same_is region other here))
held_step region other regions false here rest is = let it = rest is in (suc it.0, (let b = it.1 in omega arith), it.2)

is_held : (region : Region) (regions : List Region) → list_any (same region) regions ≡ true → Contains regions region
is_held region [] is = cc
is_held region (other ∷ regions) is = held_step region other regions (same region other) refl (is_held region regions) is

not_held_step : (region other : Region) (regions : List Region) (b : Bool) → same region other ≡ b → (list_any (same region) regions ≡ false → Contains regions region → ⊥)
    → (b || list_any (same region) regions) ≡ false → Contains (other ∷ regions) region → ⊥
not_held_step region other regions true here rest is held = false≢true (sym is)
not_held_step region other regions false here rest is (zero, below, at) = false≢true (sym here ∙ ap (same region) at ∙ same_self region)
not_held_step region other regions false here rest is (suc k, below, at) = rest is (k, omega arith, at)

not_held : (region : Region) (regions : List Region) → list_any (same region) regions ≡ false → Contains regions region → ⊥
not_held region [] is held = let b = held.1 in absurd (omega arith)
not_held region (other ∷ regions) is held = not_held_step region other regions (same region other) refl (not_held region regions) is held

module _ (bus : Bus) (table : Table) (regions : List Region) (n : ℕ) (sofar : LeftSofar bus table regions n) where
  -- access n leaves none
  left_none : ((range : TargetRange) → range_of_line bus n ≡ Some range → LeavesOf bus (table n) n range → ⊥) → LeftSofar bus table regions (n + 1)
  left_none none = record {
    few = let few = sofar.few in omega arith;
    each = sofar.each;
    all = λ j range less it. elim (cases_lt j n) [
      | inl earlier ↦ sofar.all j range earlier it
      | inr from ↦
          let e : j ≡ n = omega arith in
          let at : Leaves bus table n range = subst (λ k. Leaves bus table k range) e it in
          absurd (none range at.home_is at.of)
    ];
    once = sofar.once;
  }

  left_more : n < length bus.lines → (range : TargetRange) → range_of_line bus n ≡ Some range → LeavesOf bus (table n) n range
      → LeftSofar bus table (with_region regions (granted_by bus n range)) (n + 1)
  left_more there range home_is of = by_test (list_any (same region) regions) refl
    where
      region : Region
      region = granted_by bus n range

      mine : Leaves bus table n range
      mine = record { there = there; home_is = home_is; of = of }

      -- of one range alone
      its : (other : TargetRange) → range_of_line bus n ≡ Some other → range ≡ other
      its other is = cc

      all_more : (more : List Region) → ((r : Region) → Contains regions r → Contains more r) → Contains more region
          → (j : ℕ) (r : TargetRange) → j < n + 1 → Leaves bus table j r → Contains more (granted_by bus j r)
      all_more more keeps held j r less it = elim (cases_lt j n) [
        | inl earlier ↦ keeps (granted_by bus j r) (sofar.all j r earlier it)
        | inr from ↦
            let e : n ≡ j = omega arith in
            let same_range : range ≡ r = its r (subst (λ k. range_of_line bus k ≡ Some r) (sym e) it.home_is) in
            subst (λ k. Contains more (granted_by bus k r)) e (subst (λ (x : TargetRange). Contains more (granted_by bus n x)) same_range held)
      ]

      by_test : (b : Bool) → list_any (same region) regions ≡ b → LeftSofar bus table (cond b regions (regions ++ region ∷ [])) (n + 1)
      by_test true is = record {
        few = let few = sofar.few in omega arith;
        each = sofar.each;
        all = all_more regions (λ r held. held) (is_held region regions is);
        once = sofar.once;
      }
      by_test false is = record {
        few = let few = sofar.few in let long = length-append regions (region ∷ []) in omega arith;
        each = λ r held. elim (Contains-push_cases regions region r held) [
          | inl earlier ↦ sofar.each r earlier
          | inr e ↦ (n, range, mine, sym e)
        ];
        all = all_more (regions ++ region ∷ []) (λ r held. Contains-append_left regions (region ∷ []) r held) (Contains-push regions region);
        once = once;
      }
        where
          once : (i j : ℕ) (r : Region) → i < j → j < length (regions ++ region ∷ []) → slice_get (regions ++ region ∷ []) i ≡ Some r → slice_get (regions ++ region ∷ []) j ≢ Some r
          once i j r less below one other = elim (cases_lt j (length regions)) [
            | inl earlier ↦
                let at_j = sym (get_or_append_left regions (region ∷ []) r j earlier) ∙ get_or_from_slice_get more j r r other in
                sofar.once i j r less earlier (held_at i r (omega arith) (inside i r (omega arith) one)) (held_at j r earlier at_j)
            | inr from ↦
                let long = length-append regions (region ∷ []) in
                let e : length regions ≡ j = omega arith in
                let is_region : region ≡ r = sym (get_or_push regions region r j e) ∙ get_or_from_slice_get more j r r other in
                not_held region regions is (subst (λ (x : Region). Contains regions x) (sym is_region) (i, (omega arith), inside i r (omega arith) one))
          ]
            where
              more : List Region
              more = regions ++ region ∷ []

              inside : (k : ℕ) (x : Region) → k < length regions → slice_get (regions ++ region ∷ []) k ≡ Some x → get_or regions k x ≡ x
              inside k x within at = sym (get_or_append_left regions (region ∷ []) x k within) ∙ get_or_from_slice_get (regions ++ region ∷ []) k x x at

              held_at : (k : ℕ) (x : Region) → k < length regions → get_or regions k x ≡ x → slice_get regions k ≡ Some x
              held_at k x within at = slice_get-get_or regions k x within ∙ ap Some at

  pub left_next : n < length bus.lines → (new : List Region) → IsMore bus (table n) n regions new → LeftSofar bus table new (n + 1)
  left_next there new (inl (range, home_is, of, is)) = subst (λ more. LeftSofar bus table more (n + 1)) (sym is) (left_more there range home_is of)
  left_next there new (inr (none, is)) = subst (λ more. LeftSofar bus table more (n + 1)) (sym is) (left_none none)

pub left_nothing : (bus : Bus) (table : Table) → LeftSofar bus table [] 0
left_nothing bus table = record {
  few = omega arith;
  each = λ region held. let b = held.1 in absurd (omega arith);
  all = λ j range less it. absurd (omega arith);
  once = λ i j region less below. absurd (omega arith);
}

pub left_all : (bus : Bus) (table : Table) (regions : List Region) → LeftSofar bus table regions (length bus.lines) → AreLeft bus table regions
left_all bus table regions sofar = record {
  each = sofar.each;
  all = λ j range it. sofar.all j range it.there it;
  once = sofar.once;
}
