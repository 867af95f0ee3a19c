-- Elements of lists.
use Rattle.std.proofs.Common.{◌≡◌, ◌<◌, ◌⊎◌, inl, inr, ℕ, zero, suc, List, [], ◌∷◌, map, length, get_or, Some, refl, sym, subst, arith}
use Rattle.std.specs.Prelude.{Contains, slice_get}
use Rattle.std.specs.List.{flat_map}
use Rattle.std.proofs.lemmas.List.Elements.{Contains-append_left, Contains-append_right, Contains-append_cases}

pub no_element : {X : Type 0} (x : X) → Contains [] x → ⊥
no_element x h = let below = h.1 in omega (arith, below)

element_at : {X : Type 0} (y : X) (ys : List X) (x : X) (k : ℕ) → k < length (y ∷ ys) → get_or (y ∷ ys) k x ≡ x → (y ≡ x) ⊎ Contains ys x
element_at y ys x zero below e = inl e
element_at y ys x (suc k) below e = inr (k, omega (arith, below), e)

pub element_cases : {X : Type 0} (y : X) (ys : List X) (x : X) → Contains (y ∷ ys) x → (y ≡ x) ⊎ Contains ys x
element_cases y ys x h = element_at y ys x h.0 h.1 h.2

pub element_here : {X : Type 0} (y : X) (ys : List X) → Contains (y ∷ ys) y
element_here y ys = (0, omega arith, refl)

pub element_there : {X : Type 0} (y : X) (ys : List X) (x : X) → Contains ys x → Contains (y ∷ ys) x
element_there y ys x h = let below = h.1 in (suc h.0, omega (arith, below), h.2)

pub in_flat_map : {X A : Type 0} (f : X → List A) (xs : List X) (a : A) → Contains (flat_map f xs) a → (x : X) × Contains xs x × Contains (f x) a
in_flat_map f [] a h = absurd (no_element a h)
in_flat_map f (x ∷ xs) a h =
    elim (Contains-append_cases (f x) (flat_map f xs) a h) [
      | inl here ↦ (x, element_here x xs, here)
      | inr there ↦ let w = in_flat_map f xs a there in (w.0, element_there x xs w.0 w.1, w.2)
    ]

pub flat_map_in : {X A : Type 0} (f : X → List A) (xs : List X) (x : X) (a : A) → Contains xs x → Contains (f x) a → Contains (flat_map f xs) a
flat_map_in f [] x a h k = absurd (no_element x h)
flat_map_in f (y ∷ ys) x a h k =
    elim (element_cases y ys x h) [
      | inl is ↦ Contains-append_left (f y) (flat_map f ys) a (subst (λ z. Contains (f z) a) (sym is) k)
      | inr there ↦ Contains-append_right (f y) (flat_map f ys) a (flat_map_in f ys x a there k)
    ]

pub in_map : {X A : Type 0} (f : X → A) (xs : List X) (a : A) → Contains (map f xs) a → (x : X) × Contains xs x × (f x ≡ a)
in_map f [] a h = absurd (no_element a h)
in_map f (x ∷ xs) a h =
    elim (element_cases (f x) (map f xs) a h) [
      | inl is ↦ (x, element_here x xs, is)
      | inr there ↦ let w = in_map f xs a there in (w.0, element_there x xs w.0 w.1, w.2)
    ]

pub map_in : {X A : Type 0} (f : X → A) (xs : List X) (x : X) → Contains xs x → Contains (map f xs) (f x)
map_in f [] x h = absurd (no_element x h)
map_in f (y ∷ ys) x h =
    elim (element_cases y ys x h) [
      | inl is ↦ subst (λ z. Contains (map f (y ∷ ys)) (f z)) is (element_here (f y) (map f ys))
      | inr there ↦ element_there (f y) (map f ys) (f x) (map_in f ys x there)
    ]

pub slice_at : {X : Type 0} (xs : List X) (i : ℕ) → i < length xs → (x : X) × (slice_get xs i ≡ Some x)
slice_at [] i below = absurd (omega (arith, below))
slice_at (x ∷ xs) zero below = (x, refl)
slice_at (x ∷ xs) (suc i) below = slice_at xs i (omega (arith, below))
