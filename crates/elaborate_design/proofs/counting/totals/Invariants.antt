use Rattle.std.proofs.Common.{◌≡◌, drop}
use Rattle.elaborate_objects.specs.DesignRules.Counting.{counted, totals}
use Rattle.elaborate_design.proofs.counting.totals.Given as goal

abbrev pub invariant-loop-object : goal.invariant-loop-object
invariant-loop-object l = counted l.n (drop l.object-index l.objects) ≡ totals l.objects
