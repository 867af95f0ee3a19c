-- Each of a list is changed in its turn: those before a place are as g makes them, and those from there on as they were.
use Rattle.std.proofs.Common.{◌≡◌, ℕ, zero, suc, ◌+◌, ◌<◌, List, [], ◌∷◌, ◌++◌, map, set, get_or, take, drop, length, ap, ap₂, ◌∙◌, arith}

module _ {X Y : Type 0} (view : X → Y) (g : Y → Y) where
  abbrev pub Changed : List X → List X → ℕ → Type 0
  Changed xs olds i = map view xs ≡ map g (map view (take i olds)) ++ map view (drop i olds)

  step : (xs olds : List X) (i : ℕ) (d new : X) → i < length olds → view new ≡ g (view (get_or xs i d)) → Changed xs olds i → Changed (set xs i new) olds (suc i)
  step xs [] i d new within made so = absurd (omega (arith, within))
  step [] (o ∷ os) zero d new within made so = cc
  step [] (o ∷ os) (suc i) d new within made so = cc
  step (y ∷ ys) (o ∷ os) zero d new within made so =
      ap₂ (λ a b. a ∷ b) (made ∙ ap (λ l. g (get_or l 0 (view o))) so) (ap (λ l. drop 1 l) so)
  step (y ∷ ys) (o ∷ os) (suc i) d new within made so =
      ap₂ (λ a b. a ∷ b) (ap (λ l. get_or l 0 (view o)) so) (step ys os i d new (omega (arith, within)) made (ap (λ l. drop 1 l) so))

  pub one_more : (xs olds : List X) (i : ℕ) (d new : X) → i < length olds → view new ≡ g (view (get_or xs i d)) → Changed xs olds i → Changed (set xs i new) olds (i + 1)
  one_more xs olds i d new within made so = let on : i + 1 ≡ suc i = omega arith in rw on (step xs olds i d new within made so)
