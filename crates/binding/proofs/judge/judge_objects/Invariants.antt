use Rattle.std.proofs.Common.{◌≡◌, drop}
use Rattle.design_rules.specs.BindingFaults.{objects_fault}
use Rattle.binding.proofs.judge.judge_objects.Given as goal

abbrev pub invariant-loop-i : goal.invariant-loop-i
invariant-loop-i l = objects_fault l.objects 0 l.objects.list ≡ objects_fault l.objects l.i (drop l.i l.objects.list)
