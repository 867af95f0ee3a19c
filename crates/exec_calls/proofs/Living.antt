-- How many instances live: as many as have room in the wait lists.
use Rattle.std.proofs.Common.{◌≡◌, ◌≤◌, ℕ, Bool, true, false, ◌&&◌, T, List, [], ◌∷◌, map, length, Option, Some, None, refl, sym, ap, ◌∙◌, subst, arith, true≢false}
use Rattle.std.specs.Prelude.{is_some}
use Rattle.std.specs.declared.cmp.Ordering.TheVariants.{Less, Equal, Greater}
use Rattle.std.specs.Ordering.{nat_cmp, eq_by_cmp, is_eq, is_lt}
use Rattle.std.specs.List.{IsDistinct, AllByRecursion}
use Rattle.std.specs.FinMap as maps
use Rattle.std.specs.FinMap.Entries.{below_all, is_sorted}
use Rattle.std.specs.Cmp.{nat_cmp_total, eq_by_cmp_equiv}
use Rattle.std.proofs.lemmas.List.{length-map}
use Rattle.std.proofs.lemmas.Map.Made.{length-le_from_is_member}
use Rattle.exec_data.specs.InstanceTable.declared.instances.Instance.{Instance as Entry}
use Rattle.exec_data.specs.KernelProcesses.InstanceViews.{seen}
use Rattle.exec_data.specs.KernelProcesses.Sound.{FitsAs}
use Rattle.exec_data.specs.KernelProcesses.Sound as schedules
use Rattle.exec_data.specs.KernelProcesses.declared.parts.Process.{Process}
use Rattle.exec_data.specs.KernelProcesses.declared.parts.Schedule.{Schedule}

-- ---- no more keys than those of a map that has them all

both : (a b : Bool) → T (a && b) → T a × T b
both true b is = (tt, is)
both false b is = absurd is

module _ {X : Type 0} where
  above_all : (x : ℕ) (es : List (ℕ × X)) → T (below_all nat_cmp x es) → AllByRecursion (λ y. eq_by_cmp nat_cmp x y ≡ false) (map (λ e. e.0) es)
  above_all x [] below = tt
  above_all x (e ∷ es) below = elim (nat_cmp x e.0) as (λ o. T (is_lt o && below_all nat_cmp x es) → (is_eq o ≡ false) × AllByRecursion (λ y. eq_by_cmp nat_cmp x y ≡ false) (map (λ f. f.0) es)) [
    | Less ↦ λ rest. (refl, above_all x es rest)
    | Equal ↦ λ none. absurd none
    | Greater ↦ λ none. absurd none
  ] below

  distinct_keys : (es : List (ℕ × X)) → T (is_sorted nat_cmp es) → IsDistinct (eq_by_cmp nat_cmp) (map (λ e. e.0) es)
  unfolding IsDistinct
  distinct_keys [] sorted = tt
  distinct_keys (e ∷ es) sorted = let parts = both (below_all nat_cmp e.0 es) (is_sorted nat_cmp es) sorted in (above_all e.0 es parts.0, distinct_keys es parts.1)

  len-le : {Y : Type 0} (m : maps.FinMap nat_cmp X) (n : maps.FinMap nat_cmp Y) → ((p : ℕ) → maps.contains_key m p ≡ true → maps.contains_key n p ≡ true) → maps.len m ≤ maps.len n
  len-le {Y} m n each = omega (
    arith,
    length-le_from_is_member (eq_by_cmp_equiv nat_cmp_total) (maps.keys m) (maps.keys n) (distinct_keys (maps.entries m) (maps.entries_sorted m))
        (λ p member. sym (maps.contains_key-keys n p) ∙ each p (maps.contains_key-keys m p ∙ member)),
    length-map (maps.entries m) (λ (e : ℕ × X). e.0),
    length-map (maps.entries n) (λ (e : ℕ × Y). e.0),
    maps.len-entries m,
    maps.len-entries n,
  )

-- ---- who lives has room, and who has room lives

module _ {B : Type 0} (s : Schedule B) (sound : schedules.IsSound s) where
  lives_with_room : (p : ℕ) → maps.contains_key s.table.live p ≡ true → maps.contains_key s.lists.room p ≡ true
  lives_with_room p is = by (maps.get s.table.live p) refl is
    where
      by : (o : Option (Entry (Process B))) → maps.get s.table.live p ≡ o → is_some o ≡ true → maps.contains_key s.lists.room p ≡ true
      by None none no_one = absurd (true≢false (sym no_one))
      by (Some x) some one = (subst (λ o. FitsAs o (seen s p)) some (sound.each p)).has_room

  lives_that_has_room : (p : ℕ) → maps.contains_key s.lists.room p ≡ true → maps.contains_key s.table.live p ≡ true
  lives_that_has_room p has = by (maps.get s.table.live p) refl
    where
      by : (o : Option (Entry (Process B))) → maps.get s.table.live p ≡ o → maps.contains_key s.table.live p ≡ true
      by None none = absurd (true≢false (sym has ∙ (subst (λ o. FitsAs o (seen s p)) none (sound.each p)).has_room))
      by (Some x) some = ap is_some some

  pub as_many : maps.len s.lists.room ≡ maps.len s.table.live
  as_many =
      let more = len-le s.table.live s.lists.room lives_with_room in
      let few = len-le s.lists.room s.table.live lives_that_has_room in
      omega (arith, more, few)
