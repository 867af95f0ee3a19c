-- Names that differ.
use Rattle.std.specs.Prelude.{ℕ, List, map, bytes_eq}
use Rattle.std.specs.List.{AllByRecursion, IsDistinct}
use Rattle.flat_design.specs.ModelTree.Tree as tree
use Rattle.model_rules.specs.Meanings.{Declared, declarations}

abbrev pub names_of : List tree.Item → List (List ℕ)
names_of items = map (λ (d : Declared). d.name) (declarations items)

-- the names of modules differ, and the names in each module
pub record HasDistinctNames (m : tree.Model) : Type 0 where
  pub modules : IsDistinct bytes_eq (map (λ (d : tree.Module). d.name) m.modules)
  pub items : AllByRecursion (λ (d : tree.Module). IsDistinct bytes_eq (names_of d.items)) m.modules
