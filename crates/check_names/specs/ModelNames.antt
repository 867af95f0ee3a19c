-- How the modules of a model are kept.
use Rattle.std.specs.Prelude.{◌≡◌, ℕ, List, map}
use Rattle.model_rules.specs.ModelTree.declared.items.Item.{Item}
use Rattle.model_rules.specs.ModelTree.declared.items.Module.{Module}
use Rattle.check_names.specs.Tables.{Numbers, numbered}

abbrev pub module_items : List Module → List (List Item)
module_items modules = map (λ (m : Module). m.items.items) modules

abbrev pub names_of_modules : List Module → List (List ℕ)
names_of_modules modules = map (λ (m : Module). m.name) modules

-- the items of each, and their names with their places
pub record AreModules (modules : List Module) (tables : List (List Item)) (places : Numbers) : Type 0 where
  pub all : tables ≡ module_items modules
  pub named : places ≡ numbered (names_of_modules modules)
