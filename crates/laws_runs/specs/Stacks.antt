-- The stack of the active instances, its top first.
use Rattle.std.specs.Prelude.{◌≡◌, ◌⊎◌, ℕ, List, ◌∷◌, drop}

-- the stack stays as it is, its top leaves it, or one more comes on top
abbrev pub OnlyTopMoves : List ℕ → List ℕ → Type 0
OnlyTopMoves old new = (new ≡ old) ⊎ ((new ≡ drop 1 old) ⊎ ((q : ℕ) × (new ≡ q ∷ old)))
