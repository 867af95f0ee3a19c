-- A path, put together from the names of objects.
use Rattle.std.specs.Prelude.{ℕ, List, [], ◌∷◌}
use Rattle.design_rules.specs.FlatDesign.declared.objects.Objects.{Objects}
use Rattle.design_rules.specs.Objects.{object_at, name_of, below}

-- from an object up to those just below a path
abbrev pub path_through : Objects → List ℕ → List ℕ → List ℕ
path_through os path [] = path
path_through os path (i ∷ more) = below (path_through os path more) (name_of (object_at os i))
