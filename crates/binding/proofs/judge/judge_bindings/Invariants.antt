use Rattle.std.proofs.Common.{◌≡◌, drop}
use Rattle.design_rules.specs.BindingFaults.{bindings_fault}
use Rattle.binding.proofs.judge.judge_bindings.Given as goal

abbrev pub invariant-loop-b : goal.invariant-loop-b
invariant-loop-b l = bindings_fault l.objects l.objects.binds ≡ bindings_fault l.objects (drop l.b-index l.objects.binds)
