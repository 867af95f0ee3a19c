use Rattle.std.proofs.Common.{◌≡◌, drop}
use Rattle.model_tree.specs.Views.{modules_of}
use Rattle.check_expressions.specs.ModelRules.Names.{first}
use Rattle.check_reach.specs.Findings.{module_fault}
use Rattle.check_reach.proofs.whole.modules_finding.Given as goal

abbrev pub invariant-loop-owner : goal.invariant-loop-owner
invariant-loop-owner l = first module_fault (modules_of l.modules) ≡ first module_fault (modules_of (drop l.owner-index l.modules))
