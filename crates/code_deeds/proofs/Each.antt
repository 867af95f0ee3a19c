-- The code of each of a list, from one of it on.
use Rattle.std.specs.Prelude.{List, ◌++◌, option_map, Option}

-- what is done before the rest
abbrev pub behind : {B : Type 0} → List B → Option (List B) → Option (List B)
behind done rest = option_map (λ ys. done ++ ys) rest
