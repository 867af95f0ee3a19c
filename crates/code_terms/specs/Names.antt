-- Lists of names, in which a name is found at its first place.
use Rattle.std.specs.Prelude.{◌≡◌, ℕ, List, [], ◌∷◌, ◌++◌, bytes_eq, position, is_some, filter_map, if◌then◌else◌, Option}
use Rattle.model_tree.specs.Tree as tree
use Rattle.code_rules.specs.ModelRules.Members.{entry}
use Rattle.std.specs.List.{flat_map}
use Rattle.code_rules.specs.Deeds.{has_body}
use Rattle.code_rules.specs.Bodies.{exceptions_in_item}

abbrev pub place_of : List (List ℕ) → List ℕ → Option ℕ
place_of names name = position (λ x. bytes_eq x name) names

-- a table has each name's first place
abbrev pub ArePlaced : List (List ℕ) → List (List ℕ × ℕ) → Type 0
ArePlaced names table = (name : List ℕ) → entry name table ≡ place_of names name

-- a name more, where it is not there yet
abbrev pub with_once : List (List ℕ) → List ℕ → List (List ℕ)
with_once names name = if is_some (place_of names name) then names else names ++ name ∷ []

abbrev pub with_all : List (List ℕ) → List (List ℕ) → List (List ℕ)
with_all names [] = names
with_all names (x ∷ xs) = with_all (with_once names x) xs

-- the names of a module's bodies, in text order
abbrev pub body_names : List tree.Item → List (List ℕ)
body_names items = filter_map has_body items

-- exceptions, in text order
abbrev pub thrown_in_items : List tree.Item → List (List ℕ)
thrown_in_items items = flat_map exceptions_in_item items

abbrev pub thrown_in_modules : List tree.Module → List (List ℕ)
thrown_in_modules modules = flat_map (λ (x : tree.Module). flat_map exceptions_in_item x.items) modules
