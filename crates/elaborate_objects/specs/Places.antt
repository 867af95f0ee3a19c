-- Tables of the places of names.
use Rattle.std.specs.Prelude.{◌≡◌, ℕ, List, map}
use Rattle.check_names.specs.ModelTree.declared.items.Module.{Module}
use Rattle.check_names.specs.ModelRules.Members.{entry}
use Rattle.check_names.specs.Tables.{Numbers, place_in}

-- under each name stands the place of the first that is equal, and nothing where there is none
abbrev pub ArePlaces : List (List ℕ) → Numbers → Type 0
ArePlaces names table = (q : List ℕ) → entry q table ≡ place_in names q

abbrev pub names_of_modules : List Module → List (List ℕ)
names_of_modules ms = map (λ (m : Module). m.name) ms
