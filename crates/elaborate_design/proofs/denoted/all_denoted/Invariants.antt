use Rattle.std.proofs.Common.{◌≡◌, ◌++◌, [], ◌∷◌, drop}
use Rattle.elaborate_objects.specs.FlatDesign.declared.objects.Object.{Object}
use Rattle.elaborate_objects.specs.DesignRules.Counting.{along}
use Rattle.elaborate_objects.specs.DesignRules.Denoting.{denoted_by, all_denoted}
use Rattle.elaborate_design.proofs.denoted.all_denoted.Given as goal

abbrev pub invariant-loop-object : goal.invariant-loop-object
invariant-loop-object l = record {
  found : l.all.items ++ along (λ n (o : Object). denoted_by l.hops n o.form ∷ []) l.n (drop l.object-index l.objects) ≡ all_denoted l.hops l.objects;
  at : l.n.objects ≡ l.object-index;
}
