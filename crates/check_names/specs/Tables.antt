-- Numbers under names, of which the first that a name was given stays.
use Rattle.std.specs.Prelude.{ℕ, ◌+◌, List, [], ◌∷◌, ◌++◌, bytes_eq, position, is_some, if◌then◌else◌, Option}
use Rattle.model_rules.specs.Members.{entry}

abbrev pub Numbers : Type 0
Numbers = List (List ℕ × ℕ)

-- a number is put under a name that has none yet
abbrev pub with_first : Numbers → List ℕ → ℕ → Numbers
with_first t name n = if is_some (entry name t) then t else t ++ (name, n) ∷ []

-- names in their order, each with its place
abbrev pub numbered_from : ℕ → Numbers → List (List ℕ) → Numbers
numbered_from n t [] = t
numbered_from n t (name ∷ names) = numbered_from (n + 1) (with_first t name n) names

-- the first of equal names has its place in the table
abbrev pub numbered : List (List ℕ) → Numbers
numbered names = numbered_from 0 [] names

abbrev pub place_in : List (List ℕ) → List ℕ → Option ℕ
place_in names name = position (λ other. bytes_eq other name) names
