-- The objects that are in an instance itself.
use Rattle.std.specs.Prelude.{ℕ, ◌==◌, Bool, List}
use Rattle.elaborate_objects.specs.ModelTree.Tree as tree
use Rattle.elaborate_objects.specs.FlatDesign.declared.objects.Object.{Object}
use Rattle.elaborate_objects.specs.DesignRules.Forms.{Around, object_form}
use Rattle.elaborate_objects.specs.DesignRules.Listing.{object_if}

abbrev pub is_in : ℕ → Object → Bool
is_in instance o = o.parent == instance

-- what an item declares in the instance of this number: an object, if it is one
abbrev pub declared_in : Around → ℕ → tree.Item → List Object
declared_in a instance i = object_if instance i (object_form a i)
