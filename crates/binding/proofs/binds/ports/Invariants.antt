use Rattle.std.proofs.Common.{◌≡◌, ◌++◌, drop}
use Rattle.design_rules.specs.Bound.{ports_from}
use Rattle.binding.proofs.binds.ports.Given as goal

abbrev pub invariant-loop-i : goal.invariant-loop-i
invariant-loop-i l = l.ports ++ ports_from l.objects l.i (drop l.i l.objects.list) ≡ ports_from l.objects 0 l.objects.list
