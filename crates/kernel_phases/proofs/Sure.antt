-- Where something is runnable, a rule that is no replayed list picks it.
use Rattle.std.proofs.Common.{◌≡◌, ℕ, zero, suc, ◌-◌, ◌%◌, ◌<◌, Bool, true, false, ◌||◌, List, [], ◌∷◌, length, get_or, slice_get, Option, Some, refl, sym, ap, ◌∙◌, subst, arith, mod-lt}
use Rattle.std.specs.Prelude.{IsSomeAnd}
use Rattle.std.proofs.lemmas.Option.{slice_get-get_or}
use Rattle.std.specs.Ordering.{nat_cmp, eq_by_cmp}
use Rattle.std.specs.FinSet as set
use Rattle.rand_pcg.specs.Pcg.{pcg32}
use Rattle.kernel_state.specs.ReadySet.Ready.{rising}
use Rattle.kernel_state.proofs.ReadySet.Rising.{has, same_ties, has-in_order}
use Rattle.kernel_state.specs.SimModel.Runs.{Chooser, least, greatest, seeded, listed, picked, at_place}
use Rattle.kernel_phases.specs.Own.{ChoosesItself}
use Rattle.kernel_phases.proofs.Chosen.{place_of_set}

or_true : (b : Bool) → (b || true) ≡ true
or_true true = refl
or_true false = refl

some_inj : (x p : ℕ) → Some x ≡ Some p → x ≡ p
some_inj x p h = cc

-- what is at a place is a member
there : (xs : List ℕ) (k p : ℕ) → slice_get xs k ≡ Some p → has p xs ≡ true
there [] k p at = cc
there (x ∷ xs) zero p at = ap (λ b. b || has p xs) (same_ties p x (sym (some_inj x p at)))
there (x ∷ xs) (suc k) p at = ap (λ b. eq_by_cmp nat_cmp p x || b) (there xs k p at) ∙ or_true (eq_by_cmp nat_cmp p x)

abbrev IsMember : set.FinSet nat_cmp → Option ℕ → Type 0
IsMember s o = IsSomeAnd o (λ p. set.contains s p ≡ true)

member_at : (s : set.FinSet nat_cmp) (k : ℕ) → k < length (rising s) → IsMember s (at_place (rising s) k)
member_at s k lt =
    let at : slice_get (rising s) k ≡ Some (get_or (rising s) k 0) = slice_get-get_or (rising s) k 0 lt in
    subst (IsMember s) (sym (place_of_set s k ∙ at))
    (set.contains-items s (get_or (rising s) k 0) ∙ sym (has-in_order (get_or (rising s) k 0) (set.items s)) ∙ there (rising s) k (get_or (rising s) k 0) at)

nonempty : (xs : List ℕ) (r : ℕ) → has r xs ≡ true → 0 < length xs
nonempty [] r is = cc
nonempty (x ∷ xs) r is = omega arith

some_there : (s : set.FinSet nat_cmp) (r : ℕ) → set.contains s r ≡ true → 0 < length (rising s)
some_there s r runs = nonempty (rising s) r (has-in_order r (set.items s) ∙ sym (set.contains-items s r) ∙ runs)

pub sure : (k : Chooser) (s : set.FinSet nat_cmp) (r : ℕ) → ChoosesItself k → set.contains s r ≡ true → IsMember s (picked k (rising s))
sure least s r own runs = member_at s 0 (some_there s r runs)
sure greatest s r own runs = let lt = some_there s r runs in member_at s (length (rising s) - 1) (omega (arith, lt))
sure (seeded g) s r own runs = member_at s ((pcg32 g).0 % length (rising s)) (mod-lt (pcg32 g).0 (some_there s r runs))
sure (listed choices) s r own runs = absurd own
