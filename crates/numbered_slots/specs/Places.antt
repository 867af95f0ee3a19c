-- Which numbers are marked.
use Rattle.std.specs.Prelude.{ℕ, ◌+◌, Bool, true, false, List, [], ◌∷◌}

-- the places of the true ones, where the first place is n
abbrev pub places_from : ℕ → List Bool → List ℕ
places_from n [] = []
places_from n (true ∷ marks) = n ∷ places_from (n + 1) marks
places_from n (false ∷ marks) = places_from (n + 1) marks

-- the places of the true ones, in rising order
abbrev pub marked_places : List Bool → List ℕ
marked_places marks = places_from 0 marks
