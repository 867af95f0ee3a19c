-- What the names of instances of modules stand for.
use Rattle.std.specs.Prelude.{ℕ, List, Option, Some, None}
use Rattle.elaborate_objects.specs.ModelTree.Tree as tree
use Rattle.elaborate_objects.specs.FlatDesign.declared.objects.Object.{Object}
use Rattle.elaborate_objects.specs.FlatDesign.declared.design.Denoted.{Denoted}
use Rattle.elaborate_objects.specs.FlatDesign.declared.design.Denoted.TheVariants as denoted
use Rattle.elaborate_objects.specs.FlatDesign.declared.design.InstancePart.{InstancePart}
use Rattle.elaborate_objects.specs.DesignRules.Counting.{nothing_before, along}
use Rattle.elaborate_objects.specs.DesignRules.Denoting.{object_denoted}
use Rattle.elaborate_objects.specs.DesignRules.Parts.{instance_by}

-- what the object of a number that was found is
abbrev pub denoted_if : List Denoted → Option ℕ → Denoted
denoted_if all None = denoted.Nothing
denoted_if all (Some i) = object_denoted all i

-- the instances among objects, where these are what the objects are
abbrev pub instances_among : List tree.Module → List Denoted → List Object → List InstancePart
instances_among ms all os = along (λ n (o : Object). instance_by ms all os n.objects o.form) nothing_before os
