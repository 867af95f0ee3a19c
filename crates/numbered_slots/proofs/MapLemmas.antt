-- Finite maps from numbers, told key by key.
use Rattle.std.proofs.Common.{◌≡◌, ℕ, ◌+◌, ◌-◌, ◌≢◌, true, false, cond, Option, Some, None, refl, sym, ap, ◌∙◌, ⊎_elim, eq-eqb, ne_eqb, arith}
use Rattle.std.specs.Prelude.{is_some}
use Rattle.std.proofs.lemmas.Bool.{cases_eq}
use Rattle.std.specs.Ordering.{nat_cmp, eq_by_cmp}
use Rattle.std.specs.Cmp.{nat_cmp_total, unsigned_tied}
use Rattle.std.specs.FinMap as map
use Rattle.numbered_slots.specs.Updated.{updated}

pub ties_itself : (q k : ℕ) → q ≡ k → eq_by_cmp nat_cmp q k ≡ true
ties_itself q k same = unsigned_tied q k ∙ eq-eqb q k same

pub ties_no_other : (q k : ℕ) → q ≢ k → eq_by_cmp nat_cmp q k ≡ false
ties_no_other q k apart = unsigned_tied q k ∙ ne_eqb q k apart

module _ {X : Type 0} where
  -- maps that find the same at each key
  pub same_gets : (m new : map.FinMap nat_cmp X) → ((q : ℕ) → map.get new q ≡ map.get m q) → new ≡ m
  same_gets m new each = map.same_map nat_cmp_total map.nat_cmp-IsAntisymmetric new m each

  -- ---- written at one key, or taken out there

  pub get-updated : (m : map.FinMap nat_cmp X) (k : ℕ) (o : Option X) (q : ℕ) → map.get (updated m k o) q ≡ cond (eq_by_cmp nat_cmp q k) o (map.get m q)
  get-updated m k None q = map.get-remove nat_cmp_total m k q
  get-updated m k (Some x) q = map.get-insert nat_cmp_total m k x q

  pub get-updated_same : (m : map.FinMap nat_cmp X) (k : ℕ) (o : Option X) (q : ℕ) → q ≡ k → map.get (updated m k o) q ≡ o
  get-updated_same m k o q same = get-updated m k o q ∙ ap (λ b. cond b o (map.get m q)) (ties_itself q k same)

  pub get-updated_other : (m : map.FinMap nat_cmp X) (k : ℕ) (o : Option X) (q : ℕ) → q ≢ k → map.get (updated m k o) q ≡ map.get m q
  get-updated_other m k o q apart = get-updated m k o q ∙ ap (λ b. cond b o (map.get m q)) (ties_no_other q k apart)

  -- a map that has o at the key, and at the other keys what m has
  pub is_updated : (m new : map.FinMap nat_cmp X) (k : ℕ) (o : Option X) → map.get new k ≡ o → ((q : ℕ) → q ≢ k → map.get new q ≡ map.get m q)
      → new ≡ updated m k o
  is_updated m new k o here there = same_gets (updated m k o) new (λ q. ⊎_elim
      (λ same. ap (map.get new) same ∙ here ∙ sym (get-updated_same m k o q same))
      (λ apart. there q apart ∙ sym (get-updated_other m k o q apart))
      (cases_eq q k))

  -- so many entries more, where there was none at the key
  pub len-updated : (m : map.FinMap nat_cmp X) (k : ℕ) (o : Option X) → map.get m k ≡ None → map.len (updated m k o) ≡ cond (is_some o) 1 0 + map.len m
  len-updated m k None none = map.len-remove nat_cmp_total m k ∙ ap (λ x. cond (is_some x) (map.len m - 1) (map.len m)) none ∙ omega arith
  len-updated m k (Some x) none = map.len-insert nat_cmp_total m k x ∙ ap (λ o. cond (is_some o) (map.len m) (map.len m + 1)) none ∙ omega arith

  -- ---- put in

  pub get-insert_same : (m : map.FinMap nat_cmp X) (k : ℕ) (x : X) (q : ℕ) → q ≡ k → map.get (map.insert m k x) q ≡ Some x
  get-insert_same m k x q same = get-updated_same m k (Some x) q same

  pub get-insert_other : (m : map.FinMap nat_cmp X) (k : ℕ) (x : X) (q : ℕ) → q ≢ k → map.get (map.insert m k x) q ≡ map.get m q
  get-insert_other m k x q apart = get-updated_other m k (Some x) q apart

  -- a map that has x at the key, and at the other keys what m has
  pub is_insert : (m new : map.FinMap nat_cmp X) (k : ℕ) (x : X) → map.get new k ≡ Some x → ((q : ℕ) → q ≢ k → map.get new q ≡ map.get m q)
      → new ≡ map.insert m k x
  is_insert m new k x here there = is_updated m new k (Some x) here there

  pub len-insert_new : (m : map.FinMap nat_cmp X) (k : ℕ) (x : X) → map.get m k ≡ None → map.len (map.insert m k x) ≡ map.len m + 1
  len-insert_new m k x none = map.len-insert nat_cmp_total m k x ∙ ap (λ o. cond (is_some o) (map.len m) (map.len m + 1)) none

  pub len-insert_there : (m : map.FinMap nat_cmp X) (k : ℕ) (x : X) → is_some (map.get m k) ≡ true → map.len (map.insert m k x) ≡ map.len m
  len-insert_there m k x there = map.len-insert nat_cmp_total m k x ∙ ap (λ b. cond b (map.len m) (map.len m + 1)) there

  -- ---- taken out

  pub get-remove_same : (m : map.FinMap nat_cmp X) (k q : ℕ) → q ≡ k → map.get (map.remove m k) q ≡ None
  get-remove_same m k q same = get-updated_same m k None q same

  pub get-remove_other : (m : map.FinMap nat_cmp X) (k q : ℕ) → q ≢ k → map.get (map.remove m k) q ≡ map.get m q
  get-remove_other m k q apart = get-updated_other m k None q apart

  -- a map that has nothing at the key, and at the other keys what m has
  pub is_remove : (m new : map.FinMap nat_cmp X) (k : ℕ) → map.get new k ≡ None → ((q : ℕ) → q ≢ k → map.get new q ≡ map.get m q)
      → new ≡ map.remove m k
  is_remove m new k here there = is_updated m new k None here there

  pub len-remove_there : (m : map.FinMap nat_cmp X) (k : ℕ) → is_some (map.get m k) ≡ true → map.len (map.remove m k) ≡ map.len m - 1
  len-remove_there m k there = map.len-remove nat_cmp_total m k ∙ ap (λ b. cond b (map.len m - 1) (map.len m)) there

  -- what is not there cannot be taken out
  pub remove_absent : (m : map.FinMap nat_cmp X) (k : ℕ) → map.get m k ≡ None → m ≡ map.remove m k
  remove_absent m k none = is_remove m m k none (λ _ _. refl)

  -- what is put in and taken out
  pub remove-insert : (m : map.FinMap nat_cmp X) (k : ℕ) (x : X) → map.remove (map.insert m k x) k ≡ map.remove m k
  remove-insert m k x = is_remove m (map.remove (map.insert m k x) k) k (get-remove_same (map.insert m k x) k k refl)
      (λ q apart. get-remove_other (map.insert m k x) k q apart ∙ get-insert_other m k x q apart)
