-- Turns of walks along lists.
use Rattle.std.proofs.Common.{◌≡◌, ℕ, ◌+◌, ◌<◌, List, [], ◌∷◌, ◌++◌, drop, length, get_or, refl, sym, ap, ◌∙◌, append_assoc, drop-cons, add-one}

module _ {X A : Type 0} (part : List X → List A) (one : (x : X) (xs : List X) → part (x ∷ xs) ≡ part (x ∷ []) ++ part xs) (xs : List X) (k : ℕ) (x : X) (within : k < length xs) (is : x ≡ get_or xs k x) where
  at_turn : part (drop k xs) ≡ part (x ∷ []) ++ part (drop (k + 1) xs)
  at_turn = ap part (rw (add-one, drop-cons xs k x within, ← is) refl) ∙ one x (drop (k + 1) xs)

  pub turn : (now new whole : List A) → new ≡ now ++ part (x ∷ []) → now ++ part (drop k xs) ≡ whole → new ++ part (drop (k + 1) xs) ≡ whole
  turn now new whole e h = ap (λ ys. ys ++ part (drop (k + 1) xs)) e ∙ append_assoc now (part (x ∷ [])) (part (drop (k + 1) xs)) ∙ sym (ap (λ ys. now ++ ys) at_turn) ∙ h
