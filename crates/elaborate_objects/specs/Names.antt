-- The names that forms of objects are made with.
use Rattle.std.specs.Prelude.{◌≡◌, ℕ, List, filter_map}
use Rattle.check_names.specs.ModelTree.Tree as tree
use Rattle.check_names.specs.ModelTree.Views.{modules_of}
use Rattle.design_rules.specs.CodeRules.Deeds.{has_body}
use Rattle.design_rules.specs.Forms.{Around}
use Rattle.elaborate_objects.specs.declared.row_names.Names.{Names}

abbrev pub names_of_bodies : List tree.Item → List (List ℕ)
names_of_bodies is = filter_map has_body is

-- the modules, and the names of the bodies of the module around, with the number of its first
pub record AreAround (n : Names) (a : Around) : Type 0 where
  pub modules : modules_of n.modules.now ≡ a.modules
  pub bodies : n.bodies.now ≡ names_of_bodies a.items
  pub first : n.first_body ≡ a.first_body
