-- Lists: what a flattened or a filtered one contains, and equal ones.
use Rattle.std.proofs.Common.{◌≡◌, ◌<◌, ◌⊎◌, ℕ, zero, suc, Bool, true, false, cond, List, [], ◌∷◌, ◌++◌, length, refl, sym, ap, ◌∙◌, inl, inr, arith, subst}
use Rattle.std.specs.Prelude.{filter, Contains, All, ⊤}
use Rattle.std.specs.List.{flat_map, AllByRecursion}
use Rattle.std.proofs.lemmas.List.Elements.{Contains-append_left, Contains-append_right, Contains-append_cases, All-contains, All-contains_itself, recursion_from_All}

pub nothing_in : {X : Type 0} (x : X) → Contains [] x → ⊥
nothing_in x (k, below, is) = omega arith

pub head_in : {X : Type 0} (x : X) (xs : List X) → Contains (x ∷ xs) x
head_in x xs = (0, omega arith, refl)

pub tail_in : {X : Type 0} (x y : X) (ys : List X) → Contains ys x → Contains (y ∷ ys) x
tail_in x y ys h = Contains-append_right (y ∷ []) ys x h

pub only_in : {X : Type 0} (x y : X) → Contains (y ∷ []) x → x ≡ y
only_in x y (zero, below, is) = sym is
only_in x y (suc k, below, is) = absurd (omega arith)

-- what is mapped over a list, one after another, comes from one of its items
pub flat_map_from : {X A : Type 0} (f : X → List A) (xs : List X) (a : A) → Contains (flat_map f xs) a → (x : X) × Contains xs x × Contains (f x) a
flat_map_from f [] a h = absurd (nothing_in a h)
flat_map_from f (x ∷ xs) a h =
    elim (Contains-append_cases (f x) (flat_map f xs) a h) [
      | inl here ↦ (x, head_in x xs, here)
      | inr there ↦ let w = flat_map_from f xs a there in (w.0, tail_in w.0 x xs w.1, w.2)
    ]

-- what a filter keeps was there, and passes the test
filter_cases : {X : Type 0} (p : X → Bool) (y : X) (ys : List X) (x : X) (b : Bool) → p y ≡ b
    → (Contains (filter p ys) x → Contains ys x × (p x ≡ true)) → Contains (cond b (y ∷ filter p ys) (filter p ys)) x
    → Contains (y ∷ ys) x × (p x ≡ true)
filter_cases p y ys x false e rest h = let w = rest h in (tail_in x y ys w.0, w.1)
filter_cases p y ys x true e rest h =
    elim (Contains-append_cases (y ∷ []) (filter p ys) x h) [
      | inl here ↦ let is = only_in x y here in (subst (λ z. Contains (y ∷ ys) z) (sym is) (head_in y ys), ap p is ∙ e)
      | inr there ↦ let w = rest there in (tail_in x y ys w.0, w.1)
    ]

pub filter_from : {X : Type 0} (p : X → Bool) (xs : List X) (x : X) → Contains (filter p xs) x → Contains xs x × (p x ≡ true)
filter_from p [] x h = absurd (nothing_in x h)
filter_from p (y ∷ ys) x h = filter_cases p y ys x (p y) refl (filter_from p ys x) h

pub each_of : {X : Type 0} (P : X → Type 0) (xs : List X) → ((x : X) → Contains xs x → P x) → AllByRecursion P xs
each_of P [] h = tt
each_of P (x ∷ xs) h = (h x (head_in x xs), each_of P xs (λ y there. h y (tail_in y x xs there)))

-- equal at each item
pub flat_map_same : {X A : Type 0} (f g : X → List A) (xs : List X) → AllByRecursion (λ x. f x ≡ g x) xs → flat_map f xs ≡ flat_map g xs
flat_map_same f g [] h = refl
flat_map_same f g (x ∷ xs) h = ap (λ ys. ys ++ flat_map f xs) h.0 ∙ ap (λ ys. g x ++ ys) (flat_map_same f g xs h.1)

pub flat_map_none : {X A : Type 0} (xs : List X) → flat_map {X = X} {A = A} (λ x. []) xs ≡ []
flat_map_none [] = refl
flat_map_none (x ∷ xs) = flat_map_none xs
