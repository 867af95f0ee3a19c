-- What two transactions do at once: by what begins and ends it, and by what is kept of them.
use Rattle.std.proofs.Common.{◌≡◌, ◌≢◌, ℕ, Bool, true, false, List, [], ◌∷◌, ◌++◌, refl, sym, ap, ◌∙◌, subst, get_or, append-nil, eq-eqb}
use Rattle.std.specs.Prelude.{◌==◌, ◌&&◌, ◌↔◌, not}
use Rattle.std.proofs.lemmas.Bool.{eqb-false, ne_eqb}
use Rattle.std.proofs.lemmas.List.Folds.{list_any_none}
use Rattle.transport_phases.specs.declared.transaction.Kept.{Kept}
use Rattle.transport_phases.specs.History.{Entry, transaction, kept_of, is_other_among}
use Rattle.transport_phases.specs.Unbroken.{AtMostOne}
use Rattle.transport_phases.specs.Words.{Letter, letter_of, letters_of, IsRow}
use Rattle.transport_phases.specs.Lawful.{IsWithin, NoTwoAtOnce}
use Rattle.transport_phases.proofs.Places.{Place, Between, kept_at, Step}
use Rattle.transport_phases.proofs.WordRoutes.{row_route}
use Rattle.transport_phases.proofs.KeptPlaces.{kept_there}
use Rattle.transport_phases.proofs.Overlaps.{still, holds_within, within_holds}
use Rattle.transport_phases.proofs.Entries.{letters_of-more}

-- no other transaction of the entries passes the test
no_other : (test : ℕ → Bool) (t : ℕ) (h : List Entry) → ((u : ℕ) → u ≢ t → test u ≡ false)
    → is_other_among test t h ≡ false
no_other test t h none =
    list_any_none (λ e. not (transaction e == t) && test (transaction e)) h (λ k d below. each (get_or h k d))
  where
    at : (u : ℕ) (b : Bool) → (u == t) ≡ b → (not (u == t) && test u) ≡ false
    at u true same = ap (λ b. not b && test u) same
    at u false same = ap (λ b. not b && test u) same ∙ none u (eqb-false u t same)

    each : (e : Entry) → (not (transaction e == t) && test (transaction e)) ≡ false
    each e = at (transaction e) (transaction e == t) refl

not_true : (b : Bool) → (b ≡ true → ⊥) → b ≡ false
not_true true no_way = absurd (no_way refl)
not_true false no_way = refl

-- the test of what is kept goes along with what the letters begin and end
abbrev pub GoesAlong : (begins ends : Letter → Bool) → (Kept → Bool) → Type 0
GoesAlong begins ends test =
    (p q : Place) (l : Letter) → Step p l q → still begins ends (test (kept_at p)) l ≡ test (kept_at q)

module _ (begins ends : Letter → Bool) (test : Kept → Bool)
    (idle : test (kept_at Between) ≡ false) (steps : GoesAlong begins ends test) where
  -- in a row of words the two say the same
  pub test_within : (h : List Entry) (t : ℕ) → IsRow (letters_of h t)
      → (test (kept_of h t) ≡ true) ↔ IsWithin begins ends (letters_of h t)
  test_within h t row =
      let (p, route) = row_route row in
      let kept : test (kept_of h t) ≡ test (kept_at p) = ap test (kept_there h t route) in (
        λ is. holds_within begins ends (λ p. test (kept_at p)) steps (letters_of h t) idle route (sym kept ∙ is),
        λ within. kept ∙ within_holds begins ends (λ p. test (kept_at p)) steps (letters_of h t) idle route within,
      )

  -- where an entry begins it, no other transaction is within it
  pub none_else : (h : List Entry) (e : Entry) → NoTwoAtOnce begins ends (h ++ e ∷ [])
      → ((t : ℕ) → IsRow (letters_of h t)) → begins (letter_of e) ≡ true
      → is_other_among (λ n. test (kept_of h n)) (transaction e) h ≡ false
  none_else h e no_two rows begin =
      no_other (λ n. test (kept_of h n)) (transaction e) h (λ u apart. not_true (test (kept_of h u)) (both u apart))
    where
      t : ℕ
      t = transaction e

      this : IsWithin begins ends (letters_of (h ++ e ∷ []) t)
      this = (letters_of h t, letter_of e, [], letters_of-more h e t true (eq-eqb t t refl), begin, refl)

      same_letters : (u : ℕ) → u ≢ t → letters_of (h ++ e ∷ []) u ≡ letters_of h u
      same_letters u apart =
          letters_of-more h e u false (ne_eqb t u (λ same. apart (sym same))) ∙ append-nil (letters_of h u)

      other : (u : ℕ) → u ≢ t → test (kept_of h u) ≡ true → IsWithin begins ends (letters_of (h ++ e ∷ []) u)
      other u apart is = subst (IsWithin begins ends) (sym (same_letters u apart)) ((test_within h u (rows u)).0 is)

      both : (u : ℕ) → u ≢ t → test (kept_of h u) ≡ true → ⊥
      both u apart is = apart (no_two (h ++ e ∷ []) [] (sym (append-nil (h ++ e ∷ []))) u t (other u apart is) this)

  -- no two at once, from what is kept after each front
  pub no_two_kept : (h : List Entry) → ((front later : List Entry) → h ≡ front ++ later → AtMostOne test front)
      → ((front later : List Entry) → h ≡ front ++ later → (t : ℕ) → IsRow (letters_of front t))
      → NoTwoAtOnce begins ends h
  no_two_kept h one rows front later is t u at_t at_u =
      one front later is t u
      ((test_within front t (rows front later is t)).1 at_t)
      ((test_within front u (rows front later is u)).1 at_u)
