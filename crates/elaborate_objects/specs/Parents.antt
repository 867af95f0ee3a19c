-- Where objects stand among all of them.
use Rattle.std.specs.Prelude.{◌≡◌, ◌⊎◌, ◌<◌, ℕ, List, slice_get, Some}
use Rattle.check_names.specs.FlatDesign.declared.objects.Object.{Object}

-- each object is in an instance before it; the top instance is in itself
abbrev pub AreInside : List Object → Type 0
AreInside os = (i : ℕ) (o : Object) → slice_get os i ≡ Some o → (o.parent < i) ⊎ ((i ≡ 0) × (o.parent ≡ 0))
