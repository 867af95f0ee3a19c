-- What is found in the objects of a design: each of them by its number, its path, and the bindings of an end.
use Rattle.std.specs.Prelude.{◌==◌, ◌++◌, ◌∷◌, [], ℕ, zero, suc, Bool, true, if◌then◌else◌, List, filter, slice_get, option_map, Option, None, Some}
use Rattle.code_rules.specs.FlatDesign.declared.objects.Object.{Object}
use Rattle.code_rules.specs.FlatDesign.declared.objects.ObjectForm.{ObjectForm}
use Rattle.code_rules.specs.FlatDesign.declared.objects.Binding.{Binding}
use Rattle.code_rules.specs.FlatDesign.declared.objects.Objects.{Objects}

abbrev pub object_at : Objects → ℕ → Option Object
object_at os i = slice_get os.list i

abbrev pub form_at : Objects → ℕ → Option ObjectForm
form_at os i = option_map (λ (o : Object). o.form) (object_at os i)

-- the instance that an object is in
abbrev pub parent_of : Option Object → ℕ
parent_of None = 0
parent_of (Some o) = o.parent

abbrev pub parent_at : Objects → ℕ → ℕ
parent_at os i = parent_of (object_at os i)

-- the bindings of a left end, and those to a right end, in text order
abbrev pub bindings_of : Objects → ℕ → List Binding
bindings_of os i = filter (λ (b : Binding). b.left == i) os.binds

abbrev pub bindings_to : Objects → ℕ → List Binding
bindings_to os i = filter (λ (b : Binding). b.right == i) os.binds

-- paths: the names from the top instance down to an object, joined by dots

abbrev pub below : List ℕ → List ℕ → List ℕ
below path name = path ++ 46 ∷ name

abbrev pub name_of : Option Object → List ℕ
name_of None = []
name_of (Some o) = o.name

abbrev pub is_own_parent : ℕ → Option Object → Bool
is_own_parent i None = true
is_own_parent i (Some o) = o.parent == i

-- a parent has a lower number, so that as many steps up as that number suffice
unfoldable pub path_up : ℕ → List Object → ℕ → List ℕ
path_up zero objects i = name_of (slice_get objects i)
path_up (suc n) objects i =
    if is_own_parent i (slice_get objects i) then name_of (slice_get objects i)
    else below (path_up n objects (parent_of (slice_get objects i))) (name_of (slice_get objects i))

abbrev pub path_of : Objects → ℕ → List ℕ
path_of os i = path_up i os.list i
