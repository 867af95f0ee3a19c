-- How the names of modules are kept.
use Rattle.std.specs.Prelude.{◌≡◌, ℕ, Bool, List, map, filter, is_some}
use Rattle.model_rules.specs.ModelTree.Tree as tree
use Rattle.model_rules.specs.ModelTree.Views.{item_of, function_of}
use Rattle.model_rules.specs.ModelTree.declared.items.Item.{Item}
use Rattle.model_rules.specs.ModelTree.declared.items.FunctionItem.{FunctionItem}
use Rattle.model_rules.specs.Meanings.{Declared, declaration, declarations}
use Rattle.model_rules.specs.Scopes.{functions_in}
use Rattle.check_names.specs.Tables.{Numbers, numbered}

abbrev pub items_of : List Item → List tree.Item
items_of items = map item_of items

-- the items that declare a name
abbrev pub is_declaring : Item → Bool
is_declaring i = is_some (declaration (item_of i))

abbrev pub names_declared : List tree.Item → List (List ℕ)
names_declared items = map (λ (d : Declared). d.name) (declarations items)

abbrev pub names_of_functions : List tree.Item → List (List ℕ)
names_of_functions items = map (λ (f : tree.FunctionItem). f.name) (functions_in items)

-- the items that declare a name, their names with their places, and the same of functions
pub record AreNames (items : List Item) (declaring : List Item) (places : Numbers) (functions : List FunctionItem) (function_places : Numbers) : Type 0 where
  pub declared : declaring ≡ filter is_declaring items
  pub named : places ≡ numbered (names_declared (items_of items))
  pub called : map function_of functions ≡ functions_in (items_of items)
  pub functions_named : function_places ≡ numbered (names_of_functions (items_of items))
