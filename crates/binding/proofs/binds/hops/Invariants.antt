use Rattle.std.proofs.Common.{◌≡◌, ◌++◌, drop}
use Rattle.design_rules.specs.Bound.{hops_from}
use Rattle.binding.proofs.binds.hops.Given as goal

abbrev pub invariant-loop-i : goal.invariant-loop-i
invariant-loop-i l = l.hops ++ hops_from l.objects l.i (drop l.i l.objects.list) ≡ hops_from l.objects 0 l.objects.list
