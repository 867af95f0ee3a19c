-- Entries of a key and a value, in rising order of their keys.
use Rattle.std.specs.Prelude.{◌≡◌, ⊤, Option, None, Some, List, [], ◌∷◌, if◌then◌else◌}
use Rattle.std.specs.declared.cmp.Ordering.{Ordering}
use Rattle.std.specs.declared.cmp.Ordering.TheVariants.{Less}
use Rattle.std.specs.Ordering.{is_lt, eq_by_cmp}
use Rattle.std.specs.FinMap as map

module _ {K V : Type 0} (R : K → K → Ordering) where
  -- each key is above k
  abbrev pub AllAbove : K → List (K × V) → Type 0
  AllAbove k [] = ⊤
  AllAbove k (e ∷ es) = (R k e.0 ≡ Less) × AllAbove k es

  -- each key is above those before it
  abbrev pub IsRising : List (K × V) → Type 0
  IsRising [] = ⊤
  IsRising (e ∷ es) = AllAbove e.0 es × IsRising es

  -- the entries without that of the key
  abbrev pub without : K → List (K × V) → List (K × V)
  without k [] = []
  without k (e ∷ es) = if eq_by_cmp R k e.0 then without k es else e ∷ without k es

  -- the first entry whose key is not below k
  abbrev pub first_not_below : K → List (K × V) → Option (K × V)
  first_not_below k [] = None
  first_not_below k (e ∷ es) = if is_lt (R e.0 k) then first_not_below k es else Some e

  -- the entries as a map, where each key has the value that it has in the list
  abbrev pub as_map : List (K × V) → map.FinMap R V
  as_map es = map.from_entries es
