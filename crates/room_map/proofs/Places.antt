-- What stands at a place of a list that is put together around one item.
use Rattle.std.proofs.Common.{◌≡◌, ℕ, zero, suc, ◌+◌, ◌<◌, List, [], ◌∷◌, ◌++◌, length, Some, refl, ap, arith}
use Rattle.std.specs.Prelude.{slice_get}

module _ {X : Type 0} where
  pub before_item : (l : List X) (e : X) (r : List X) (k : ℕ) → k < length l → slice_get (l ++ e ∷ r) k ≡ slice_get l k
  before_item [] e r k h = absurd (omega arith)
  before_item (x ∷ l) e r zero h = refl
  before_item (x ∷ l) e r (suc k) h = before_item l e r k (omega arith)

  pub at_item : (l : List X) (e : X) (r : List X) (k : ℕ) → k ≡ length l → slice_get (l ++ e ∷ r) k ≡ Some e
  at_item [] e r zero h = refl
  at_item [] e r (suc k) h = absurd (omega arith)
  at_item (x ∷ l) e r zero h = absurd (omega arith)
  at_item (x ∷ l) e r (suc k) h = at_item l e r k (omega arith)

  pub behind_item : (l : List X) (e : X) (r : List X) (k j : ℕ) → k ≡ length l + 1 + j → slice_get (l ++ e ∷ r) k ≡ slice_get r j
  behind_item [] e r zero j h = absurd (omega arith)
  behind_item [] e r (suc k) j h = let same : k ≡ j = omega arith in ap (slice_get r) same
  behind_item (x ∷ l) e r zero j h = absurd (omega arith)
  behind_item (x ∷ l) e r (suc k) j h = behind_item l e r k j (omega arith)
