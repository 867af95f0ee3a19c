-- Two lists that are in order and have the same places are the same.
use Rattle.std.proofs.Common.{◌≡◌, ℕ, suc, ◌↔◌, List, [], ◌∷◌, get_or, refl, sym, ap, ◌∙◌, subst, inl, inr, arith}
use Rattle.std.specs.Prelude.{Contains}
use Rattle.std.proofs.lemmas.Bool.{false≢true}
use Rattle.std.proofs.lemmas.List.{get_or_default}
use Rattle.dmi_map.specs.declared.order.Rank.{Rank}
use Rattle.dmi_map.specs.Ranks.{is_before, ComesBefore, AreInOrder}
use Rattle.dmi_map.proofs.Orders.{before_trans, never_itself}
use Rattle.dmi_map.proofs.OrderedPlaces.{split}

first : (p : ℕ) (ps : List ℕ) → Contains (p ∷ ps) p
first p ps = (0, omega arith, refl)

later : (p x : ℕ) (ps : List ℕ) → Contains ps x → Contains (p ∷ ps) x
later p x ps (k, below, is) = (suc k, omega arith, is)

module _ (ranks : ℕ → Rank) where
  tail_in_order : (p : ℕ) (ps : List ℕ) → AreInOrder ranks (p ∷ ps) → AreInOrder ranks ps
  tail_in_order p ps sorted i j less below = sorted (suc i) (suc j) (omega arith) (omega arith)

  first_before : (p x : ℕ) (ps : List ℕ) → AreInOrder ranks (p ∷ ps) → Contains ps x → ComesBefore ranks p x
  first_before p x ps sorted (k, below, is) =
      let e : get_or ps k 0 ≡ x = get_or_default ps k 0 x below ∙ is in
      subst (λ n. ComesBefore ranks p n) e (sorted 0 (suc k) (omega arith) (omega arith))

  never_round : (p q : ℕ) → ComesBefore ranks p q → ComesBefore ranks q p → ⊥
  never_round p q one two = false≢true (sym (never_itself (ranks p) p) ∙ before_trans (ranks p) p (ranks q) q (ranks p) p one two)

  never_self : (p q : ℕ) → p ≡ q → ComesBefore ranks p q → ⊥
  never_self p q e one = false≢true (sym (never_itself (ranks p) p) ∙ ap (λ n. is_before (ranks p) p (ranks n) n) e ∙ one)

  abbrev Same : List ℕ → List ℕ → Type 0
  Same ps qs = (k : ℕ) → Contains ps k ↔ Contains qs k

  same_first : (p q : ℕ) (ps qs : List ℕ) → AreInOrder ranks (p ∷ ps) → AreInOrder ranks (q ∷ qs) → Same (p ∷ ps) (q ∷ qs) → p ≡ q
  same_first p q ps qs one other same = elim (split q p qs ((same p).0 (first p ps))) [
    | inl e ↦ sym e
    | inr in_others ↦ elim (split p q ps ((same q).1 (first q qs))) [
      | inl e ↦ e
      | inr in_places ↦ absurd (never_round p q (first_before p q ps one in_places) (first_before q p qs other in_others))
    ]
  ]

  tail_in : (p q x : ℕ) (ps qs : List ℕ) → AreInOrder ranks (p ∷ ps) → p ≡ q → (Contains (p ∷ ps) x → Contains (q ∷ qs) x) → Contains ps x → Contains qs x
  tail_in p q x ps qs sorted e to held = elim (split q x qs (to (later p x ps held))) [
    | inl is ↦ absurd (never_self p x (e ∙ is) (first_before p x ps sorted held))
    | inr there ↦ there
  ]

  pub same_order : (ps qs : List ℕ) → AreInOrder ranks ps → AreInOrder ranks qs → Same ps qs → ps ≡ qs
  same_order [] [] one other same = refl
  same_order [] (q ∷ qs) one other same = let held = (same q).1 (first q qs) in let below = held.1 in absurd (omega arith)
  same_order (p ∷ ps) [] one other same = let held = (same p).0 (first p ps) in let below = held.1 in absurd (omega arith)
  same_order (p ∷ ps) (q ∷ qs) one other same =
      let e = same_first p q ps qs one other same in
      let rest = same_order ps qs (tail_in_order p ps one) (tail_in_order q qs other)
      (λ k. (tail_in p q k ps qs one e (same k).0, tail_in q p k qs ps other (sym e) (same k).1)) in
      ap (λ n. n ∷ ps) e ∙ ap (λ l. q ∷ l) rest
