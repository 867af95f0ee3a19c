-- How many instances wait, and how many have room.
use Rattle.std.proofs.Common.{◌≡◌, ℕ, zero, suc, ◌+◌, ◌-◌, ◌<◌, ◌≤◌, Bool, true, false, true≢false, cond, ◌&&◌, T, List, [], ◌∷◌, map, length, Option, Some, None, refl, sym, ap, ◌∙◌, arith, ⊎_elim}
use Rattle.std.specs.Prelude.{is_some}
use Rattle.std.specs.declared.cmp.Ordering.TheVariants.{Less, Equal, Greater}
use Rattle.std.specs.Ordering.{nat_cmp, eq_by_cmp, is_eq, is_lt}
use Rattle.std.specs.List.{IsDistinct, AllByRecursion}
use Rattle.std.specs.FinMap as maps
use Rattle.std.specs.FinMap.Entries.{below_all, is_sorted}
use Rattle.std.specs.Cmp.{nat_cmp_total, eq_by_cmp_equiv}
use Rattle.std.proofs.lemmas.Bool.{cases_eq}
use Rattle.std.proofs.lemmas.List.{length-map, length-append}
use Rattle.std.proofs.lemmas.Map.Made.{length-le_from_is_member}
use Rattle.event_core.specs.declared.event.Ev.{Ev}
use Rattle.wait_lists.specs.Waits.{Waits, waits_naming, is_met_by, AllHaveRoom, AddsEach}
use Rattle.wait_lists.specs.Shown.{Shown, wait_of, room_of, told, waits_of}
use Rattle.numbered_slots.proofs.MapLemmas.{ties_itself, ties_no_other}
use Rattle.wait_lists.proofs.ByPlace.{get-waits, get-room}
use Rattle.wait_lists.proofs.Counted.{length-le_keys}
use Rattle.wait_lists.proofs.MetLemmas.{naming-met, at_most_one, counted}

pub adds_few : (w : Waits) (e : Ev) (old new : List ℕ) → AddsEach old new (λ p. is_met_by w p e) → length new ≤ length old + maps.len (waits_naming w e)
adds_few w e old new adds = omega (
  arith,
  ap length adds.behind,
  length-append old adds.added,
  length-le_keys (waits_naming w e) adds.added
      (λ p. omega (arith, adds.once p, at_most_one (is_met_by w p e)))
      (λ p stands. naming-met w e p (counted (is_met_by w p e) (omega (arith, adds.once p)))),
)

both : (a b : Bool) → T (a && b) → T a × T b
both true b is = (tt, is)
both false b is = absurd is

one_less : (b : Bool) (n : ℕ) → n ≤ cond b (n - 1) n + 1
one_less true n = omega arith
one_less false n = omega arith

some_is : {X : Type 0} (o : Option X) → (is_some o ≡ true → ⊥) → o ≡ None
some_is None never = refl
some_is (Some x) never = absurd (never refl)

module _ {X : Type 0} where
  above_all : (x : ℕ) (es : List (ℕ × X)) → T (below_all nat_cmp x es) → AllByRecursion (λ y. eq_by_cmp nat_cmp x y ≡ false) (map (λ e. e.0) es)
  above_all x [] below = tt
  above_all x (e ∷ es) below = elim (nat_cmp x e.0) as (λ o. T (is_lt o && below_all nat_cmp x es) → (is_eq o ≡ false) × AllByRecursion (λ y. eq_by_cmp nat_cmp x y ≡ false) (map (λ f. f.0) es)) [
    | Less ↦ λ rest. (refl, above_all x es rest)
    | Equal ↦ λ none. absurd none
    | Greater ↦ λ none. absurd none
  ] below

  distinct_keys : (es : List (ℕ × X)) → T (is_sorted nat_cmp es) → IsDistinct (eq_by_cmp nat_cmp) (map (λ e. e.0) es)
  unfolding IsDistinct
  distinct_keys [] sorted = tt
  distinct_keys (e ∷ es) sorted = let parts = both (below_all nat_cmp e.0 es) (is_sorted nat_cmp es) sorted in (above_all e.0 es parts.0, distinct_keys es parts.1)

  -- no more keys than those of a map that has them all
  pub len-le : {Y : Type 0} (m : maps.FinMap nat_cmp X) (n : maps.FinMap nat_cmp Y) → ((p : ℕ) → maps.contains_key m p ≡ true → maps.contains_key n p ≡ true) → maps.len m ≤ maps.len n
  len-le {Y} m n each = omega (
    arith,
    length-le_from_is_member (eq_by_cmp_equiv nat_cmp_total) (maps.keys m) (maps.keys n) (distinct_keys (maps.entries m) (maps.entries_sorted m))
        (λ p member. sym (maps.contains_key-keys n p) ∙ each p (maps.contains_key-keys m p ∙ member)),
    length-map (maps.entries m) (λ (e : ℕ × X). e.0),
    length-map (maps.entries n) (λ (e : ℕ × Y). e.0),
    maps.len-entries m,
    maps.len-entries n,
  )

  -- keys among so many numbers in a row are no more than those
  pub len-row : (first n : ℕ) (m : maps.FinMap nat_cmp X) → ((p : ℕ) → maps.contains_key m p ≡ true → (first ≤ p) × (p < first + n)) → maps.len m ≤ n
  len-row first zero m within =
      let none : m ≡ maps.empty = maps.same_map nat_cmp_total maps.nat_cmp-IsAntisymmetric m maps.empty (λ p. some_is (maps.get m p) (λ is. let in_row = within p is in absurd (omega arith)) ∙ sym (maps.get-empty nat_cmp p)) in
      omega (arith, ap maps.len none, maps.len-empty nat_cmp X)
  len-row first (suc n) m within = omega (
    arith,
    maps.len-remove nat_cmp_total m (first + n),
    one_less (maps.contains_key m (first + n)) (maps.len m),
    len-row first n (maps.remove m (first + n)) (λ p is. ⊎_elim
        (λ (e : p ≡ first + n). absurd (true≢false (sym is ∙ ap is_some (maps.get-remove nat_cmp_total m (first + n) p ∙ ap (λ b. cond b None (maps.get m p)) (ties_itself p (first + n) e)))))
        (λ apart. let in_row = within p (sym (ap is_some (maps.get-remove nat_cmp_total m (first + n) p ∙ ap (λ b. cond b None (maps.get m p)) (ties_no_other p (first + n) apart))) ∙ is) in (in_row.0, omega arith))
        (cases_eq p (first + n))),
  )

waits_have_room : (o : Option Shown) → is_some (wait_of o) ≡ true → is_some (room_of o) ≡ true
waits_have_room None waits = waits
waits_have_room (Some s) waits = refl

pub all_have_room : (ss : List Shown) (es : List (ℕ × ℕ)) → AllHaveRoom (waits_of ss es)
all_have_room ss es p waits = ap is_some (get-room ss es p) ∙ waits_have_room (told ss es p) (sym (ap is_some (get-waits ss es p)) ∙ waits)
