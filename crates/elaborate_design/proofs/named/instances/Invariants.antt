use Rattle.std.proofs.Common.{◌≡◌, ◌++◌, drop}
use Rattle.elaborate_objects.specs.ModelTree.Views.{modules_of}
use Rattle.elaborate_objects.specs.FlatDesign.declared.objects.Object.{Object}
use Rattle.elaborate_objects.specs.DesignRules.Counting.{along}
use Rattle.elaborate_objects.specs.DesignRules.Parts.{instance_by}
use Rattle.elaborate_design.specs.Named.{instances_among}
use Rattle.elaborate_design.proofs.named.instances.Given as goal

abbrev pub invariant-loop-object : goal.invariant-loop-object
invariant-loop-object l = record {
  found : l.found ++ along (λ n (o : Object). instance_by (modules_of l.modules) l.all l.objects n.objects o.form) l.n (drop l.object-index l.objects) ≡ instances_among (modules_of l.modules) l.all l.objects;
  at : l.n.objects ≡ l.object-index;
}
