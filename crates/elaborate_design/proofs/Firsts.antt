-- Tables of the first hop at each place.
use Rattle.std.proofs.Common.{◌≡◌, ◌≢◌, ◌<◌, ◌+◌, ℕ, zero, suc, Bool, true, false, cond, List, [], ◌∷◌, drop, length, get_or, replicate, Option, Some, None, refl, sym, ap, ◌∙◌, subst, arith, drop-cons, add-one}
use Rattle.std.specs.Prelude.{◌==◌, slice_get, slice_set, unwrap_or, position}
use Rattle.std.specs.Option.{option_or}
use Rattle.std.specs.List.{position_from}
use Rattle.std.proofs.lemmas.Bool.Decides.{nat_tests}
use Rattle.std.proofs.lemmas.List.{length-set, length-replicate, get_or-set_same, get_or-set_other}
use Rattle.std.proofs.lemmas.Option.{unwrap_or-slice_get, slice_get-get_or}
use Rattle.std.proofs.lemmas.Iterator.Adapters.{position_from-zero}
use Rattle.elaborate_objects.specs.DesignRules.declared.bindings.Joined.{Joined}
use Rattle.elaborate_design.specs.Joins.{set_if, with_first_at, number_at}

length_if : (table : List (Option ℕ)) (j k : ℕ) (s : Option (Option ℕ)) → length (set_if table j k s) ≡ length table
length_if table j k None = refl
length_if table j k (Some None) = length-set table j (Some k)
length_if table j k (Some (Some m)) = refl

pub length_first : (table : List (Option ℕ)) (j k : ℕ) → length (with_first_at table j k) ≡ length table
length_first table j k = length_if table j k (slice_get table j)

module _ (table : List (Option ℕ)) (j k : ℕ) where
  same_if : (o : Option ℕ) → slice_get table j ≡ Some o → j < length table → number_at (set_if table j k (Some o)) j ≡ option_or (number_at table j) (Some k)
  same_if None e below =
      unwrap_or-slice_get (slice_set table j (Some k)) j None ∙ get_or-set_same table j (Some k) None below
      ∙ sym (ap (λ s. option_or (unwrap_or s None) (Some k)) e)
  same_if (Some m) e below = ap (λ s. unwrap_or s None) e ∙ sym (ap (λ s. option_or (unwrap_or s None) (Some k)) e)

  at_same : j < length table → number_at (with_first_at table j k) j ≡ option_or (number_at table j) (Some k)
  at_same below =
      let e = slice_get-get_or table j None below in
      ap (λ s. number_at (set_if table j k s) j) e ∙ same_if (get_or table j None) e below

  other_if : (i : ℕ) → i ≢ j → (s : Option (Option ℕ)) → number_at (set_if table j k s) i ≡ number_at table i
  other_if i ne None = refl
  other_if i ne (Some None) =
      unwrap_or-slice_get (slice_set table j (Some k)) i None ∙ get_or-set_other table j i (Some k) None ne ∙ sym (unwrap_or-slice_get table i None)
  other_if i ne (Some (Some m)) = refl

  at_other : (i : ℕ) → i ≢ j → number_at (with_first_at table j k) i ≡ number_at table i
  at_other i ne = other_if i ne (slice_get table j)

some_first : (o p : Option ℕ) (k : ℕ) → option_or (option_or o (Some k)) p ≡ option_or o (Some k)
some_first None p k = refl
some_first (Some m) p k = refl

module _ (key : Joined → ℕ) (table : List (Option ℕ)) (hops : List Joined) (k : ℕ) (d : Joined) (within : k < length hops) (i : ℕ) (below : i < length table) where
  abbrev h : Joined
  h = get_or hops k d

  abbrev rest : Option ℕ
  rest = position_from (λ x. key x == i) (k + 1) (drop (k + 1) hops)

  by : (b : Bool) → (key h == i) ≡ b → (whole : Option ℕ) → option_or (number_at table i) (cond b (Some k) rest) ≡ whole → option_or (number_at (with_first_at table (key h) k) i) rest ≡ whole
  by true e whole so =
      let same : i ≡ key h = grind (arith, nat_tests, e) in
      let here : number_at (with_first_at table (key h) k) i ≡ option_or (number_at table i) (Some k) =
      subst (λ j. number_at (with_first_at table j k) i ≡ option_or (number_at table i) (Some k)) same (at_same table i k below) in
      ap (λ o. option_or o rest) here ∙ some_first (number_at table i) rest k ∙ so
  by false e whole so =
      let ne : i ≢ key h = grind (arith, nat_tests, e) in
      ap (λ o. option_or o rest) (at_other table (key h) k i ne) ∙ so

  next_hop : drop k hops ≡ h ∷ drop (k + 1) hops
  next_hop = rw (add-one, drop-cons hops k d within) refl

  turn : position_from (λ x. key x == i) k (drop k hops) ≡ cond (key h == i) (Some k) rest
  turn = ap (position_from (λ x. key x == i) k) next_hop

  first_step : (whole : Option ℕ) → option_or (number_at table i) (position_from (λ x. key x == i) k (drop k hops)) ≡ whole
      → option_or (number_at (with_first_at table (key h) k) i) (position_from (λ x. key x == i) (k + 1) (drop (k + 1) hops)) ≡ whole
  first_step whole so = by (key h == i) refl whole (ap (option_or (number_at table i)) (sym turn) ∙ so)

-- the table after one hop more
pub firsts_more : (key : Joined → ℕ) (table new : List (Option ℕ)) (hops : List Joined) (k : ℕ) (d : Joined) (count : ℕ) → k < length hops → length table ≡ count
    → ((i : ℕ) → i < count → option_or (number_at table i) (position_from (λ x. key x == i) k (drop k hops)) ≡ position (λ x. key x == i) hops)
    → new ≡ with_first_at table (key (get_or hops k d)) k
    → (length new ≡ count) × ((i : ℕ) → i < count → option_or (number_at new i) (position_from (λ x. key x == i) (k + 1) (drop (k + 1) hops)) ≡ position (λ x. key x == i) hops)
firsts_more key table new hops k d count within long so is = (
  ap length is ∙ length_first table (key (get_or hops k d)) k ∙ long,
  λ i below.
      ap (λ t. option_or (number_at t i) (position_from (λ x. key x == i) (k + 1) (drop (k + 1) hops))) is
      ∙ first_step key table hops k d within i (subst (λ n. i < n) (sym long) below) (position (λ x. key x == i) hops) (so i below),
)

-- before the first hop no place has a number
none_at : (count i : ℕ) → number_at (replicate count None) i ≡ None
none_at zero i = refl
none_at (suc count) zero = refl
none_at (suc count) (suc i) = none_at count i

pub firsts_none : (joins : ℕ → Joined → Bool) (table : List (Option ℕ)) (hops : List Joined) (count : ℕ) → table ≡ replicate count None
    → (length table ≡ count) × ((i : ℕ) → i < count → option_or (number_at table i) (position_from (joins i) 0 hops) ≡ position (joins i) hops)
firsts_none joins table hops count is = (
  ap length is ∙ length-replicate count None,
  λ i below. ap (λ t. option_or (number_at t i) (position_from (joins i) 0 hops)) is ∙ ap (λ o. option_or o (position_from (joins i) 0 hops)) (none_at count i) ∙ sym (position_from-zero (joins i) hops),
)
