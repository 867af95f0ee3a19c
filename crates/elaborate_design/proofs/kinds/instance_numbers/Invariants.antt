use Rattle.std.proofs.Common.{◌≡◌, ◌++◌, [], ◌∷◌, drop}
use Rattle.elaborate_objects.specs.DesignRules.Counting.{along}
use Rattle.elaborate_objects.specs.DesignRules.Parts.{instance_numbers}
use Rattle.elaborate_design.proofs.kinds.instance_numbers.Given as goal

abbrev pub invariant-loop-object : goal.invariant-loop-object
invariant-loop-object l = l.numbers.items ++ along (λ n o. n.instances ∷ []) l.n (drop l.object-index l.objects) ≡ instance_numbers l.objects
