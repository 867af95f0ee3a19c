-- Places in order: one comes before another or behind it, and what is put between stays in order.
use Rattle.std.proofs.Common.{◌≡◌, ℕ, ◌+◌, ◌-◌, ◌<◌, ◌≤◌, ◌⊎◌, true, false, List, length, get_or, sym, ap, ◌∙◌, subst, inl, inr, arith}
use Rattle.std.specs.List.{insert}
use Rattle.std.proofs.lemmas.Bool.{cases_lt}
use Rattle.std.proofs.lemmas.Bool.Decides.{nat_tests}
use Rattle.std.proofs.lemmas.List.Edits.{length-insert, get_or-insert_below, get_or-insert_at, get_or-insert_above}
use Rattle.dmi_map.specs.declared.order.Rank.{Rank}
use Rattle.dmi_map.specs.Ranks.{is_before, ComesBefore, AreInOrder}

pub before_trans : (a : Rank) (i : ℕ) (b : Rank) (j : ℕ) (c : Rank) (k : ℕ) → is_before a i b j ≡ true → is_before b j c k ≡ true → is_before a i c k ≡ true
before_trans a i b j c k one two = grind (arith, nat_tests)

pub before_or_behind : (a : Rank) (i : ℕ) (b : Rank) (j : ℕ) → i < j → is_before b j a i ≡ false → is_before a i b j ≡ true
before_or_behind a i b j less is_not = grind (arith, nat_tests)

pub never_itself : (a : Rank) (i : ℕ) → is_before a i a i ≡ false
never_itself a i = grind (arith, nat_tests)

-- ---- what is put between

module _ (ranks : ℕ → Rank) (places : List ℕ) (at k : ℕ) where
  abbrev now : ℕ → ℕ
  now i = get_or (insert places at k) i 0

  -- an element before the new one, the new one, or one behind it
  abbrev IsOneOf : ℕ → Type 0
  IsOneOf i = ((i < at) × (now i ≡ get_or places i 0)) ⊎ (((i ≡ at) × (now i ≡ k)) ⊎ ((at < i) × (now i ≡ get_or places (i - 1) 0)))

  one_of : at ≤ length places → (i : ℕ) → IsOneOf i
  one_of within i = elim (cases_lt i at) [
    | inl below ↦ inl (below, get_or-insert_below places at k 0 i below within)
    | inr from ↦ elim (cases_lt at i) [
      | inl above ↦
          let e : i - 1 + 1 ≡ i = omega arith in
          inr (inr (above, subst (λ n. now n ≡ get_or places (i - 1) 0) e (get_or-insert_above places at k 0 (i - 1) (omega arith) within)))
      | inr to ↦
          let e : at ≡ i = omega arith in
          inr (inl (sym e, subst (λ n. now n ≡ k) e (get_or-insert_at places at k 0 within)))
    ]
  ]

  along : (i j x y : ℕ) → i ≡ x → j ≡ y → ComesBefore ranks x y → ComesBefore ranks i j
  along i j x y e f h = ap (λ n. is_before (ranks n) n (ranks j) j) e ∙ ap (λ m. is_before (ranks x) x (ranks m) m) f ∙ h

  pub inserted : at ≤ length places → AreInOrder ranks places
      → ((i : ℕ) → i < at → ComesBefore ranks (get_or places i 0) k)
      → ((i : ℕ) → at ≤ i → i < length places → ComesBefore ranks k (get_or places i 0))
      → AreInOrder ranks (insert places at k)
  inserted within sorted before behind i j less below =
      let long = length-insert places at k within in
      elim (one_of within i) [
        | inl (low, is) ↦ elim (one_of within j) [
          | inl (lower, is') ↦ along _ _ _ _ is is' (sorted i j less (omega arith))
          | inr (inl (equal, is')) ↦ along _ _ _ _ is is' (before i low)
          | inr (inr (above, is')) ↦ along _ _ _ _ is is' (sorted i (j - 1) (omega arith) (omega arith))
        ]
        | inr (inl (here, is)) ↦ elim (one_of within j) [
          | inl (lower, is') ↦ absurd (omega arith)
          | inr (inl (equal, is')) ↦ absurd (omega arith)
          | inr (inr (above, is')) ↦ along _ _ _ _ is is' (behind (j - 1) (omega arith) (omega arith))
        ]
        | inr (inr (high, is)) ↦ elim (one_of within j) [
          | inl (lower, is') ↦ absurd (omega arith)
          | inr (inl (equal, is')) ↦ absurd (omega arith)
          | inr (inr (above, is')) ↦ along _ _ _ _ is is' (sorted (i - 1) (j - 1) (omega arith) (omega arith))
        ]
      ]
