-- A module that is found within so many instances is had by a path of them.
use Rattle.std.proofs.Common.{◌≡◌, ◌<◌, ◌⊎◌, ℕ, zero, suc, Bool, true, false, List, [], ◌∷◌, length, refl, sym, ap, subst, inl, inr, arith}
use Rattle.std.specs.Prelude.{◌==◌, ◌||◌, Contains}
use Rattle.std.specs.List.{list_any}
use Rattle.std.proofs.lemmas.Bool.{eqb-true}
use Rattle.std.proofs.lemmas.List.Elements.{Contains-append_right}
use Rattle.code_rules.specs.ModelTree.Tree as tree
use Rattle.design_rules.specs.declared.made.Made.{Made}
use Rattle.design_rules.specs.ObjectFaults.{made_at, Has, Directly, Through, has_within}

any_in : {X : Type 0} (p : X → Bool) (x : X) (xs : List X) (b : Bool) → p x ≡ b
    → (list_any p xs ≡ true → (y : X) × Contains xs y × (p y ≡ true)) → (b || list_any p xs) ≡ true → (y : X) × Contains (x ∷ xs) y × (p y ≡ true)
any_in p x xs true e rest h = (x, (0, omega arith, refl), e)
any_in p x xs false e rest h = let w = rest h in (w.0, Contains-append_right (x ∷ []) xs w.0 w.1, w.2)

any_from : {X : Type 0} (p : X → Bool) (xs : List X) → list_any p xs ≡ true → (x : X) × Contains xs x × (p x ≡ true)
any_from p [] h = cc
any_from p (x ∷ xs) h = any_in p x xs (p x) refl (any_from p xs) h

or_cases : (a b : Bool) → (a || b) ≡ true → (a ≡ true) ⊎ (b ≡ true)
or_cases true b h = inl refl
or_cases false b h = inr h

pub has_path : (ms : List tree.Module) (n inner outer : ℕ) → has_within n ms inner outer ≡ true → Has ms outer inner
unfolding has_within
has_path ms zero inner outer h = cc
has_path ms (suc n) inner outer h =
    let w = any_from (λ (x : Made). x.place == inner || has_within n ms inner x.place) (made_at ms outer) h in
    elim (or_cases (w.0.place == inner) (has_within n ms inner w.0.place) w.2) [
      | inl same ↦ subst (λ p. Has ms outer p) (eqb-true w.0.place inner same) (Directly outer w.0 w.1)
      | inr deeper ↦ Through outer inner w.0 w.1 (has_path ms n inner w.0.place deeper)
    ]
