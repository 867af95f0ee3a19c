-- How the members are kept: as the keys of entries in rising order. No public clause cites this module.
use Rattle.std.specs.Prelude.{ℕ, ◌<◌, Bool, not, ◌==◌, List, [], ◌∷◌, map}

abbrev pub keys_of : List (ℕ × Unit {0}) → List ℕ
keys_of es = map (λ e. e.0) es

abbrev pub AllAbove : ℕ → List ℕ → Type 0
AllAbove b [] = Unit {0}
AllAbove b (x ∷ xs) = (b < x) × AllAbove b xs

abbrev pub IsRising : List ℕ → Type 0
IsRising [] = Unit {0}
IsRising (x ∷ xs) = AllAbove x xs × IsRising xs

abbrev pub is_other : ℕ → ℕ → Bool
is_other p x = not (p == x)
