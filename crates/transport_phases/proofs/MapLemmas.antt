-- Rows set in a finite map, and how many there are then.
use Rattle.std.proofs.Common.{◌≡◌, ℕ, ◌+◌, ◌-◌, ◌<◌, Bool, true, false, cond, Some, None, refl, sym, ap, ◌∙◌, arith, true≢false, eq-eqb, inl, inr}
use Rattle.std.specs.Prelude.{◌==◌, if◌then◌else◌, is_some}
use Rattle.std.proofs.lemmas.Bool.{cases_lt, eqb-true, eqb-false, ne_eqb}
use Rattle.std.specs.Ordering.{nat_cmp, eq_by_cmp}
use Rattle.std.specs.Cmp.{nat_cmp_total, unsigned_tied}
use Rattle.std.specs.FinMap as map
use Rattle.transport_phases.specs.declared.transaction.Kept.{Kept}
use Rattle.transport_phases.specs.Phases.{is_fresh}
use Rattle.transport_phases.specs.Seats.{SetsRow}

turned : (u t : ℕ) → (u == t) ≡ (t == u)
turned u t = by (u == t) refl
  where
    by : (b : Bool) → (u == t) ≡ b → b ≡ (t == u)
    by true is = sym (eq-eqb t u (sym (eqb-true u t is)))
    by false is = sym (ne_eqb t u (λ same. eqb-false u t is (sym same)))

ties : (u t : ℕ) → eq_by_cmp nat_cmp u t ≡ (t == u)
ties u t = unsigned_tied u t ∙ turned u t

module _ (m : map.FinMap nat_cmp Kept) (t : ℕ) (k : Kept) where
  pub set_insert : (new : map.FinMap nat_cmp Kept) → is_fresh k ≡ false → new ≡ map.insert m t k → SetsRow m new t k
  set_insert new says is u =
      ap (λ n. map.get n u) is ∙ map.get-insert nat_cmp_total m t k u
      ∙ ap (λ b. cond b (Some k) (map.get m u)) (ties u t)
      ∙ ap (λ o. cond (t == u) o (map.get m u)) (sym (ap (λ b. if b then None else Some k) says))

  pub set_remove : (new : map.FinMap nat_cmp Kept) → is_fresh k ≡ true → new ≡ map.remove m t → SetsRow m new t k
  set_remove new says is u =
      ap (λ n. map.get n u) is ∙ map.get-remove nat_cmp_total m t u
      ∙ ap (λ b. cond b None (map.get m u)) (ties u t)
      ∙ ap (λ o. cond (t == u) o (map.get m u)) (sym (ap (λ b. if b then None else Some k) says))

  pub len_inserted : map.contains_key m t ≡ false → map.len (map.insert m t k) ≡ map.len m + 1
  len_inserted absent = map.len-insert nat_cmp_total m t k ∙ ap (λ b. cond b (map.len m) (map.len m + 1)) absent

  pub len_replaced : map.contains_key m t ≡ true → map.len (map.insert m t k) ≡ map.len m
  len_replaced there = map.len-insert nat_cmp_total m t k ∙ ap (λ b. cond b (map.len m) (map.len m + 1)) there

some_there : (m : map.FinMap nat_cmp Kept) (t : ℕ) → map.contains_key m t ≡ true → 0 < map.len m
some_there m t there =
    elim (cases_lt 0 (map.len m)) [
      | inl some ↦ some
      | inr none ↦ absurd (true≢false (sym there ∙ ap (λ n. map.contains_key n t) (map.empty_of_len m (omega arith)) ∙ ap is_some (map.get-empty nat_cmp t)))
    ]

pub len_removed : (m : map.FinMap nat_cmp Kept) (t : ℕ) → map.contains_key m t ≡ true → map.len (map.remove m t) + 1 ≡ map.len m
len_removed m t there =
    let one_less : map.len (map.remove m t) ≡ map.len m - 1 = map.len-remove nat_cmp_total m t ∙ ap (λ b. cond b (map.len m - 1) (map.len m)) there in
    let some : 0 < map.len m = some_there m t there in
    omega arith
