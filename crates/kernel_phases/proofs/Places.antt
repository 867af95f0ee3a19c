-- The serial at a place is the element there, in a list that rises.
use Rattle.std.proofs.Common.{◌≡◌, ℕ, zero, suc, ◌<◌, ◌≤◌, Bool, cond, List, [], ◌∷◌, length, filter, find, Some, slice_get, nat_lt, ◌==◌, refl, sym, ap, ◌∙◌, ⊎_elim, arith, lt-ltb, le-ltb, eq-eqb, ne_eqb}
use Rattle.std.proofs.lemmas.Bool.{cases_eq}
use Rattle.kernel_state.specs.ReadySet.Layout.{AllAbove, IsRising}
use Rattle.kernel_state.specs.SimModel.Runs.{less_than, at_place}

-- none of those above a number is less than what is at most the number
none_less : (y p : ℕ) → p ≤ y → (zs : List ℕ) → AllAbove y zs → less_than zs p ≡ 0
none_less y p le [] above = refl
none_less y p le (z ∷ zs) above =
    let h = above.0 in
    ap (λ b. length (cond b (z ∷ filter (λ q. nat_lt q p) zs) (filter (λ q. nat_lt q p) zs))) (le-ltb z p (omega (arith, h, le))) ∙ none_less y p le zs above.1

first_place : (y : ℕ) (zs : List ℕ) → AllAbove y zs → less_than (y ∷ zs) y ≡ 0
first_place y zs above =
    ap (λ b. length (cond b (y ∷ filter (λ q. nat_lt q y) zs) (filter (λ q. nat_lt q y) zs))) (le-ltb y y (omega arith)) ∙ none_less y y (omega arith) zs above

next_place : (y p : ℕ) (zs : List ℕ) → y < p → less_than (y ∷ zs) p ≡ suc (less_than zs p)
next_place y p zs h = ap (λ b. length (cond b (y ∷ filter (λ q. nat_lt q p) zs) (filter (λ q. nat_lt q p) zs))) (lt-ltb y p h)

-- tests that agree above a number find the same above it
find_above : (P Q : ℕ → Bool) (y : ℕ) (zs : List ℕ) → AllAbove y zs → ((p : ℕ) → y < p → P p ≡ Q p) → find P zs ≡ find Q zs
find_above P Q y [] above alike = refl
find_above P Q y (z ∷ zs) above alike =
    ap (λ b. cond b (Some z) (find P zs)) (alike z above.0) ∙ ap (λ o. cond (Q z) (Some z) o) (find_above P Q y zs above.1 alike)

same_suc : (a b : ℕ) → (suc a == suc b) ≡ (a == b)
same_suc a b = ⊎_elim (λ same. eq-eqb (suc a) (suc b) (ap suc same) ∙ sym (eq-eqb a b same)) (λ apart. ne_eqb (suc a) (suc b) (λ e. apart (omega (arith, e))) ∙ sym (ne_eqb a b apart)) (cases_eq a b)

pub rising_place : (xs : List ℕ) → IsRising xs → (k : ℕ) → at_place xs k ≡ slice_get xs k
rising_place [] rises k = refl
rising_place (y ∷ zs) rises zero =
    ap (λ b. cond b (Some y) (find (λ p. less_than (y ∷ zs) p == 0) zs)) (eq-eqb (less_than (y ∷ zs) y) 0 (first_place y zs rises.0))
rising_place (y ∷ zs) rises (suc j) =
    ap (λ b. cond b (Some y) (find (λ p. less_than (y ∷ zs) p == suc j) zs))
    (ne_eqb (less_than (y ∷ zs) y) (suc j) (λ same. let first = first_place y zs rises.0 in absurd (omega (arith, first, same))))
    ∙ find_above (λ p. less_than (y ∷ zs) p == suc j) (λ p. less_than zs p == j) y zs rises.0 (λ p h. ap (λ n. n == suc j) (next_place y p zs h) ∙ same_suc (less_than zs p) j)
    ∙ rising_place zs rises.1 j
