use Rattle.std.proofs.Common.{◌≡◌, drop}
use Rattle.design_rules.specs.BindingFaults.{has_twice}
use Rattle.binding.proofs.twice.has_twice.Given as goal

abbrev pub invariant-loop-i : goal.invariant-loop-i
invariant-loop-i l = has_twice l.list ≡ has_twice (drop l.i l.list)
