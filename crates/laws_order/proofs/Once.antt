-- A list in which a number stands once, and the others of that list.
use Rattle.std.proofs.Common.{◌≡◌, ◌+◌, ◌==◌, ◌≤◌, ℕ, Bool, true, false, cond, not, ◌||◌, List, [], ◌∷◌, refl, sym, ap, ◌∙◌, subst, arith, eqb-true, true≢false}
use Rattle.std.specs.Prelude.{IsPermutation}
use Rattle.std.proofs.lemmas.List.Sorted.{IsPermutation-refl, IsPermutation-cons, IsPermutation-middle, IsPermutation-trans}
use Rattle.sim_model.specs.Clean.{times}
use Rattle.sim_model.specs.Waits.{holds, without}
use Rattle.laws_runs.proofs.Times.{times-cons, times-holds}

kept_first : (b : Bool) (p x : ℕ) (xs : List ℕ) → without xs p ≡ xs → (b || holds xs p) ≡ false → cond (not b) (x ∷ without xs p) (without xs p) ≡ x ∷ xs
kept_first true p x xs later h = absurd (true≢false h)
kept_first false p x xs later h = ap (λ ys. x ∷ ys) later

held_later : (b : Bool) (p : ℕ) (xs : List ℕ) → (b || holds xs p) ≡ false → holds xs p ≡ false
held_later true p xs h = absurd (true≢false h)
held_later false p xs h = h

without_none : (p : ℕ) (xs : List ℕ) → holds xs p ≡ false → without xs p ≡ xs
without_none p [] h = refl
without_none p (x ∷ xs) h = kept_first (x == p) p x xs (without_none p xs (held_later (x == p) p xs h)) h

lacks : (p : ℕ) (xs : List ℕ) → times p xs ≡ 0 → holds xs p ≡ false
lacks p xs none = by (holds xs p) refl
  where
    by : (b : Bool) → holds xs p ≡ b → b ≡ false
    by true is = let some = times-holds p xs is in absurd (omega (arith, some, none))
    by false is = refl

first_out : (b : Bool) (p x : ℕ) (xs : List ℕ) → (x == p) ≡ b → (b || holds xs p) ≡ true → times p (x ∷ xs) ≤ 1 → (holds xs p ≡ true → times p xs ≤ 1 → IsPermutation xs (p ∷ without xs p))
    → IsPermutation (x ∷ xs) (p ∷ cond (not b) (x ∷ without xs p) (without xs p))
first_out true p x xs same held once_ later =
    let t = times-cons p x xs ∙ ap (λ b. cond b 1 0 + times p xs) same in
    let w = without_none p xs (lacks p xs (omega (arith, t, once_))) in
    subst (λ (ys : List ℕ). IsPermutation (x ∷ xs) (p ∷ ys)) (sym w) (subst (λ q. IsPermutation (x ∷ xs) (q ∷ xs)) (eqb-true x p same) (IsPermutation-refl (x ∷ xs)))
first_out false p x xs same held once_ later =
    let t = times-cons p x xs ∙ ap (λ b. cond b 1 0 + times p xs) same in
    IsPermutation-trans (x ∷ xs) (x ∷ p ∷ without xs p) (p ∷ x ∷ without xs p) (IsPermutation-cons x xs (p ∷ without xs p) (later held (omega (arith, t, once_)))) (IsPermutation-middle (x ∷ []) p (without xs p))

-- it may stand at the front
pub one-out : (p : ℕ) (xs : List ℕ) → holds xs p ≡ true → times p xs ≤ 1 → IsPermutation xs (p ∷ without xs p)
one-out p [] held once_ = absurd (true≢false (sym held))
one-out p (x ∷ xs) held once_ = first_out (x == p) p x xs refl held once_ (one-out p xs)
