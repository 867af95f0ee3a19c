use Rattle.std.proofs.Common.{◌≡◌, drop}
use Rattle.std.specs.Option.{option_or}
use Rattle.model_tree.specs.Views.{modules_of}
use Rattle.check_statements.specs.CheckExpressions.Findings.{faults_of}
use Rattle.check_items.specs.Whole.{modules_fault}
use Rattle.check_items.proofs.models.modules_finding.Given as goal

abbrev pub invariant-loop-i : goal.invariant-loop-i
invariant-loop-i l =
    modules_fault (modules_of l.modules) (modules_of l.modules) ≡ option_or (faults_of l.found) (modules_fault (modules_of l.modules) (modules_of (drop l.i l.modules)))
