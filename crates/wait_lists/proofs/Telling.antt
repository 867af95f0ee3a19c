-- What is told of each instance, after a change of one waiter.
use Rattle.std.proofs.Common.{◌≡◌, ℕ, ◌^◌, ◌<◌, ◌≢◌, List, length, set, Option, Some, None, refl, sym, ap, ◌∙◌}
use Rattle.std.specs.Prelude.{slice_get}
use Rattle.std.specs.Ordering.{nat_cmp}
use Rattle.std.specs.FinMap as maps
use Rattle.std.proofs.lemmas.Option.{slice_get_within}
use Rattle.wait_lists.specs.Shown.{Shown, shown_at, told}
use Rattle.wait_lists.specs.Layout.{serial_of}
use Rattle.wait_lists.proofs.Places.{slice_get-set_same, slice_get-set_other}

abbrev pub Placed : List (ℕ × ℕ) → List Shown → Type 0
Placed es ss = (p at : ℕ) → maps.find nat_cmp p es ≡ Some at → (serial_of (slice_get ss at) ≡ Some p) × (p < 2 ^ 32)

-- the waiter of a serial
pub shown-serial : (o : Option Shown) (p : ℕ) → serial_of o ≡ Some p → (s : Shown) × (o ≡ Some s) × (s.serial ≡ p)
shown-serial None p is = let e : None ≡ Some p = is in cc
shown-serial (Some s) p is = (s, refl, let e : Some s.serial ≡ Some p = is in cc)

module _ (ss : List Shown) (es : List (ℕ × ℕ)) (placed : Placed es ss) where
  pub place_within : (p at : ℕ) → maps.find nat_cmp p es ≡ Some at → at < length ss
  place_within p at place = let one = shown-serial (slice_get ss at) p (placed p at place).0 in slice_get_within ss at one.0 one.1

  -- no two have one place
  pub one_place : (p q at : ℕ) → maps.find nat_cmp p es ≡ Some at → maps.find nat_cmp q es ≡ Some at → p ≡ q
  one_place p q at is other = let same : Some p ≡ Some q = sym (placed p at is).0 ∙ (placed q at other).0 in cc

  module _ (p at : ℕ) (new s : Shown) (place : maps.find nat_cmp p es ≡ Some at) (here : slice_get ss at ≡ Some s) where
    pub told-here : told ss es p ≡ Some s
    told-here = ap (shown_at ss) place ∙ here

    pub told-set_same : told (set ss at new) es p ≡ Some new
    told-set_same = ap (shown_at (set ss at new)) place ∙ slice_get-set_same ss at s new here

    pub told-set_other : (q : ℕ) → q ≢ p → told (set ss at new) es q ≡ told ss es q
    told-set_other q apart = by_place (maps.find nat_cmp q es) refl
      where
        by_place : (o : Option ℕ) → maps.find nat_cmp q es ≡ o → shown_at (set ss at new) o ≡ shown_at ss o
        by_place None found = refl
        by_place (Some j) found = slice_get-set_other ss at j new (λ e. apart (one_place q p at (found ∙ ap Some e) place))

pub none_left : {X : Type 0} (o : Option X) → ((x : X) → o ≡ Some x → ⊥) → o ≡ None
none_left None none = refl
none_left (Some x) none = absurd (none x refl)

-- the waiter that was written
pub written_at : (ss tt : List Shown) (at : ℕ) (s x new : Shown) → slice_get ss at ≡ Some s → tt ≡ set ss at new → slice_get tt at ≡ Some x → x ≡ new
written_at ss tt at s x new here is read =
    let same : Some x ≡ Some new = sym read ∙ ap (λ l. slice_get l at) is ∙ slice_get-set_same ss at s new here in cc
