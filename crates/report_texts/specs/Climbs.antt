-- A path, put together from the names of objects.
use Rattle.std.specs.Prelude.{ℕ, List, [], ◌∷◌, slice_get}
use Rattle.flat_design.specs.declared.objects.Object.{Object}
use Rattle.kernel_state.specs.SimModel.Configuration.{below, name_of}

-- behind a path, the names of these objects, of which the first stands lowest
abbrev pub path_through : List Object → List ℕ → List ℕ → List ℕ
path_through objects path [] = path
path_through objects path (i ∷ more) = below (path_through objects path more) (name_of (slice_get objects i))
