-- Walks along a list: what is gathered so far and what is left.
use Rattle.std.proofs.Common.{◌≡◌, ℕ, ◌+◌, ◌<◌, List, ◌∷◌, ◌++◌, length, get_or, drop, drop-cons, add-one, append_assoc, map, filter_map, Option, Some, None, Result, Ok, Err, OnOk, refl, sym, ap, ◌∙◌}
use Rattle.std.specs.Prelude.{option_to_list}
use Rattle.std.specs.Option.{option_or}
use Rattle.model_tree.specs.declared.faults.Fault.{Fault}
use Rattle.check_expressions.specs.ModelRules.Names.{first}

module _ {X A : Type 0} (walk : List X → List A) (part : X → List A) (one : (x : X) (xs : List X) → walk (x ∷ xs) ≡ part x ++ walk xs) (xs : List X) (k : ℕ) where
  -- at the element k, which is x
  pub turn : (x : X) → k < length xs → x ≡ get_or xs k x → (before after whole : List A) → after ≡ before ++ part x → before ++ walk (drop k xs) ≡ whole → after ++ walk (drop (k + 1) xs) ≡ whole
  turn x within is before after whole step h =
      let here : drop k xs ≡ x ∷ drop (k + 1) xs = rw (add-one, drop-cons xs k x within, ← is) refl in
      ap (λ ys. ys ++ walk (drop (k + 1) xs)) step
      ∙ append_assoc before (part x) (walk (drop (k + 1) xs))
      ∙ ap (λ ys. before ++ ys) (sym (one x (drop (k + 1) xs)) ∙ ap walk (sym here))
      ∙ h

  pub turn_at : (d : X) → k < length xs → (before after whole : List A) → after ≡ before ++ part (get_or xs k d) → before ++ walk (drop k xs) ≡ whole → after ++ walk (drop (k + 1) xs) ≡ whole
  turn_at d within before after whole step h =
      let x = get_or xs k d in
      let here : drop k xs ≡ x ∷ drop (k + 1) xs = rw (add-one, drop-cons xs k d within) refl in
      ap (λ ys. ys ++ walk (drop (k + 1) xs)) step
      ∙ append_assoc before (part x) (walk (drop (k + 1) xs))
      ∙ ap (λ ys. before ++ ys) (sym (one x (drop (k + 1) xs)) ∙ ap walk (sym here))
      ∙ h

filter_one : {Y A : Type 0} (h : Y → Option A) (o : Option A) (y : Y) (ys : List Y) → h y ≡ o → filter_map h (y ∷ ys) ≡ option_to_list o ++ filter_map h ys
filter_one h None y ys e = rw e refl
filter_one h (Some a) y ys e = rw e refl

-- what a test gives of the elements, one by one
pub filtered : {X Y A : Type 0} (f : X → Y) (h : Y → Option A) (x : X) (xs : List X) → filter_map h (map f (x ∷ xs)) ≡ option_to_list (h (f x)) ++ filter_map h (map f xs)
filtered f h x xs = filter_one h (h (f x)) (f x) (map f xs) refl

pub filtered_same : {Y A : Type 0} (h : Y → Option A) (y : Y) (ys : List Y) → filter_map h (y ∷ ys) ≡ option_to_list (h y) ++ filter_map h ys
filtered_same h y ys = filter_one h (h y) y ys refl

-- the first that is found along a list
module _ {X Y : Type 0} (f : X → Y) (judge : Y → Option Fault) (xs : List X) (k : ℕ) where
  abbrev left : ℕ → Option Fault
  left n = first judge (map f (drop n xs))

  found_here : (x : X) → drop k xs ≡ x ∷ drop (k + 1) xs → left k ≡ option_or (judge (f x)) (left (k + 1))
  found_here x e = ap (λ ys. first judge (map f ys)) e

  pub found_at : (d : X) → k < length xs → (whole : Option Fault) (fault : Fault) → whole ≡ left k → Some fault ≡ judge (f (get_or xs k d)) → Some fault ≡ whole
  found_at d within whole fault h found =
      sym (h ∙ found_here (get_or xs k d) (rw (add-one, drop-cons xs k d within) refl) ∙ ap (λ o. option_or o (left (k + 1))) (sym found))

  pub none_at : (d : X) → k < length xs → (whole : Option Fault) → whole ≡ left k → None ≡ judge (f (get_or xs k d)) → whole ≡ left (k + 1)
  none_at d within whole h none =
      h ∙ found_here (get_or xs k d) (rw (add-one, drop-cons xs k d within) refl) ∙ ap (λ o. option_or o (left (k + 1))) (sym none)

  pub found_item : (x : X) → k < length xs → x ≡ get_or xs k x → (whole : Option Fault) (fault : Fault) → whole ≡ left k → Some fault ≡ judge (f x) → Some fault ≡ whole
  found_item x within is whole fault h found =
      sym (h ∙ found_here x (rw (add-one, drop-cons xs k x within, ← is) refl) ∙ ap (λ o. option_or o (left (k + 1))) (sym found))

  pub none_item : (x : X) → k < length xs → x ≡ get_or xs k x → (whole : Option Fault) → whole ≡ left k → None ≡ judge (f x) → whole ≡ left (k + 1)
  none_item x within is whole h none =
      h ∙ found_here x (rw (add-one, drop-cons xs k x within, ← is) refl) ∙ ap (λ o. option_or o (left (k + 1))) (sym none)

-- what follows where a call succeeds
pub on_ok : {X Y : Type 0} {P Q : Type 0} (r : Result X Y) → (P → Q) → OnOk r P → OnOk r Q
on_ok (Ok x) f h = f h
on_ok (Err e) f h = tt
