-- The first of the rising order of a set.
use Rattle.std.proofs.Common.{◌≡◌, ◌≤◌, ℕ, Bool, true, false, ◌||◌, List, [], ◌∷◌, refl, sym, ap, ◌∙◌, subst, arith, true≢false}
use Rattle.std.specs.Prelude.{Some, None, slice_get}
use Rattle.std.specs.Ordering.{nat_cmp, eq_by_cmp}
use Rattle.std.specs.FinSet as set
use Rattle.std.specs.FinSet.{FinSet, contains, items}
use Rattle.ready_set.specs.Ready.{rising, IsLeast}
use Rattle.ready_set.specs.Layout.{AllAbove, IsRising}
use Rattle.ready_set.proofs.Rising.{has, same_ties, tied, has-in_order, rising-in_order}

-- the rising order of a set has its members
has-rising : (s : FinSet nat_cmp) (q : ℕ) → contains s q ≡ has q (rising s)
has-rising s q = set.contains-items s q ∙ sym (has-in_order q (items s))

-- what is in a list that is above b is above b
above_each : (b q : ℕ) (xs : List ℕ) → AllAbove b xs → has q xs ≡ true → b ≤ q
above_each b q [] above there = absurd (true≢false (sym there))
above_each b q (x ∷ xs) above there = by_tie (eq_by_cmp nat_cmp q x) refl (above_each b q xs above.1)
  where
    by_tie : (t : Bool) → eq_by_cmp nat_cmp q x ≡ t → (has q xs ≡ true → b ≤ q) → b ≤ q
    by_tie true e later = let h = above.0 in omega (arith, h, tied q x e)
    by_tie false e later = later (sym (ap (λ t. t || has q xs) e) ∙ there)

from_first : (q x : ℕ) (xs : List ℕ) → AllAbove x xs → has q (x ∷ xs) ≡ true → x ≤ q
from_first q x xs above there = by_tie (eq_by_cmp nat_cmp q x) refl
  where
    by_tie : (t : Bool) → eq_by_cmp nat_cmp q x ≡ t → x ≤ q
    by_tie true e = omega (arith, tied q x e)
    by_tie false e = above_each x q xs above (sym (ap (λ t. t || has q xs) e) ∙ there)

some_inj : (x p : ℕ) → Some x ≡ Some p → x ≡ p
some_inj x p h = cc

first_least : (s : FinSet nat_cmp) (p : ℕ) (xs : List ℕ) → IsRising xs → ((q : ℕ) → contains s q ≡ has q xs) → slice_get xs 0 ≡ Some p → IsLeast s p
first_least s p [] rises alike h = cc
first_least s p (x ∷ xs) rises alike h =
    let e : x ≡ p = some_inj x p h in
    subst (IsLeast s) e (record {
      member = alike x ∙ ap (λ b. b || has x xs) (same_ties x x refl);
      least = λ q there. from_first q x xs rises.0 (sym (alike q) ∙ there);
    })

pub least : (s : FinSet nat_cmp) (p : ℕ) → slice_get (rising s) 0 ≡ Some p → IsLeast s p
least s p h = first_least s p (rising s) (rising-in_order (items s)) (has-rising s) h

none_there : (xs : List ℕ) → slice_get xs 0 ≡ None → xs ≡ []
none_there [] h = refl
none_there (x ∷ xs) h = cc

pub none : (s : FinSet nat_cmp) → slice_get (rising s) 0 ≡ None → s ≡ set.empty
none s h = set.same_set Rattle.std.specs.Cmp.nat_cmp_total set.nat_cmp-IsAntisymmetric s set.empty (λ q.
    has-rising s q ∙ ap (has q) (none_there (rising s) h) ∙ sym (set.contains-empty nat_cmp q))
