use Rattle.std.proofs.Common.{◌≡◌, drop}
use Rattle.model_tree.specs.Views.{expressions_of}
use Rattle.check_expressions.specs.ModelRules.Passes.{constructs, fault_of}
use Rattle.check_expressions.specs.ModelRules.Sites.{argument_sites}
use Rattle.check_expressions.specs.CheckNames.Places.{scope_of}
use Rattle.check_actions.proofs.calls.arguments_finding.Given as goal

abbrev pub invariant-loop-argument : goal.invariant-loop-argument
invariant-loop-argument l =
    fault_of constructs (argument_sites (scope_of l.place) (expressions_of l.arguments)) ≡ fault_of constructs (argument_sites (scope_of l.place) (expressions_of (drop l.argument-index l.arguments)))
