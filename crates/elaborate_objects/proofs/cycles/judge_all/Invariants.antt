use Rattle.std.proofs.Common.{◌≡◌, drop}
use Rattle.check_names.specs.ModelTree.Views.{modules_of}
use Rattle.design_rules.specs.ObjectFaults.{cycle_from}
use Rattle.elaborate_objects.proofs.cycles.judge_all.Given as goal

abbrev pub invariant-loop-k : goal.invariant-loop-k
invariant-loop-k l =
    cycle_from (modules_of l.modules) 0 (modules_of l.modules) ≡ cycle_from (modules_of l.modules) l.k (modules_of (drop l.k l.modules))
