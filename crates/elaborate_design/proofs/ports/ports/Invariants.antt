use Rattle.std.proofs.Common.{◌≡◌, ◌++◌, drop}
use Rattle.elaborate_objects.specs.FlatDesign.declared.objects.Object.{Object}
use Rattle.elaborate_objects.specs.DesignRules.Paths.{ends_of}
use Rattle.elaborate_objects.specs.DesignRules.Bound.{ports_from}
use Rattle.elaborate_objects.specs.DesignRules.Counting.{along}
use Rattle.elaborate_objects.specs.DesignRules.Parts.{port_by}
use Rattle.elaborate_design.specs.Linked.{ports_among}
use Rattle.elaborate_design.proofs.ports.ports.Given as goal

abbrev pub invariant-loop-object : goal.invariant-loop-object
invariant-loop-object l = record {
  found : l.found ++ along (λ n (o : Object). port_by l.all (ends_of l.objects n.objects) n.objects o.form) l.n (drop l.object-index l.objects.list) ≡ ports_among l.objects l.all;
  at : l.n.objects ≡ l.object-index;
  left : drop l.n.ports l.bound ≡ ports_from l.objects l.object-index (drop l.object-index l.objects.list);
}
