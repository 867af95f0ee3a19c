-- A waiter's list grows shorter, node by node.
use Rattle.std.proofs.Common.{◌≡◌, ℕ, zero, suc, ◌<◌, ◌≤◌, ◌≢◌, List, [], ◌∷◌, length, set, Some, refl, sym, ap, ◌∙◌, subst, arith}
use Rattle.std.specs.Prelude.{slice_get}
use Rattle.event_core.specs.declared.event.Ev.{Ev}
use Rattle.wait_lists.specs.declared.waiter.Waiter.{Waiter}
use Rattle.wait_lists.specs.declared.layout.Kept.{Kept}
use Rattle.wait_lists.specs.Shown.{Shown, events_of}
use Rattle.wait_lists.specs.Chains.{none}
use Rattle.wait_lists.specs.Nodes.{shown_of}
use Rattle.wait_lists.specs.Layout.{IsSound, IsOf, IsUsed, IsShorter, shown_by}
use Rattle.wait_lists.proofs.Places.{slice_get-set_same}
use Rattle.wait_lists.proofs.Refit.{get-inside, shown-at}
use Rattle.wait_lists.proofs.Rewritten.{used-of, first-of, no-first, some-first}

pub set_twice : {X : Type 0} (xs : List X) (i : ℕ) (x y : X) → set (set xs i x) i y ≡ set xs i y
set_twice [] i x y = refl
set_twice (z ∷ xs) zero x y = refl
set_twice (z ∷ xs) (suc i) x y = ap (λ l. z ∷ l) (set_twice xs i x y)

-- the waiter is there
pub shown-there : (k : Kept) (at : ℕ) → at < length k.waiters.items → (s : Shown) × (slice_get (shown_by k) at ≡ Some s)
shown-there k at inside = let w = get-inside k.waiters.items at inside in (shown_of k.nodes.items w.0, shown-at k.nodes.items k.waiters.items at w.0 w.1)

module _ (k : Kept) (sound : IsSound k) (at first : ℕ) (inside : at < length k.waiters.items) (first_is : (w : Waiter) → slice_get k.waiters.items at ≡ Some w → first ≡ w.first) where
  pub of-first : first ≢ none → IsOf k at first
  of-first there =
      let w = get-inside k.waiters.items at inside in
      let same = first_is w.0 w.1 in
      let P : ℕ → Type 0 = λ i. IsOf k at i in
      subst P (sym same) (first-of k sound.0 at w.0 w.1 (λ e. there (same ∙ e)))

  pub used-first : first ≢ none → IsUsed k first
  used-first there = let w = get-inside k.waiters.items at inside in used-of k sound.0 at w.0 w.1 first (of-first there)

  pub empty-first : first ≡ none → (s : Shown) → slice_get (shown_by k) at ≡ Some s → s.events ≡ []
  empty-first is s found =
      let w = get-inside k.waiters.items at inside in
      let same : Some s ≡ Some (shown_of k.nodes.items w.0) = sym found ∙ shown-at k.nodes.items k.waiters.items at w.0 w.1 in
      let alike : s ≡ shown_of k.nodes.items w.0 = cc in
      ap (λ x. x.events) alike ∙ no-first k sound.0 at w.0 w.1 (sym (first_is w.0 w.1) ∙ is)

  pub full-first : first ≢ none → (s : Shown) → slice_get (shown_by k) at ≡ Some s → 1 ≤ length s.events
  full-first there s found =
      let w = get-inside k.waiters.items at inside in
      let same : Some s ≡ Some (shown_of k.nodes.items w.0) = sym found ∙ shown-at k.nodes.items k.waiters.items at w.0 w.1 in
      let alike : s ≡ shown_of k.nodes.items w.0 = cc in
      omega (arith, ap (λ (x : Shown). length x.events) alike, some-first k sound.0 at w.0 w.1 (λ e. there (first_is w.0 w.1 ∙ e)))

module _ (ss tt : List Shown) (at : ℕ) (s : Shown) (here : slice_get ss at ≡ Some s) (evs : List Ev) (is : tt ≡ set ss at (record s { events = evs })) where
  pub left-here : slice_get tt at ≡ Some (record s { events = evs })
  left-here = ap (λ l. slice_get l at) is ∙ slice_get-set_same ss at s (record s { events = evs }) here

  pub left-more : (uu : List Shown) (more : List Ev) → uu ≡ set tt at (record s { events = more }) → uu ≡ set ss at (record s { events = more })
  left-more uu more then = then ∙ ap (λ l. set l at (record s { events = more })) is ∙ set_twice ss at (record s { events = evs }) (record s { events = more })

pub shorter-count : (a b : Kept) (at i : ℕ) → at < length a.waiters.items → ((s : Shown) → slice_get (shown_by a) at ≡ Some s → IsShorter a b at i s)
    → length (events_of (slice_get (shown_by b) at)) < length (events_of (slice_get (shown_by a) at))
shorter-count a b at i inside each =
    let x = shown-there a at inside in
    let less = each x.0 x.1 in
    omega (
      arith,
      less.one_less,
      ap (λ o. length (events_of o)) x.1,
      ap (λ o. length (events_of o)) (left-here (shown_by a) (shown_by b) at x.0 x.1 less.events less.is),
    )
