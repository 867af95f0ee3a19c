use Rattle.std.proofs.Common.{◌≡◌, drop}
use Rattle.model_tree.specs.Views.{expressions_of}
use Rattle.code_terms.specs.CodeRules.Deeds as deeds
use Rattle.code_terms.specs.CheckNames.Places.{scope_of}
use Rattle.code_deeds.specs.Homes.{arguments_of}
use Rattle.code_deeds.proofs.Each.{behind}
use Rattle.code_deeds.proofs.calls.arguments_code.Given as goal

abbrev pub invariant-loop-i : goal.invariant-loop-i
invariant-loop-i l =
    deeds.arguments (scope_of l.place) l.parameters (expressions_of l.arguments) ≡ behind (arguments_of l.done.items) (deeds.arguments (scope_of l.place) (drop l.i l.parameters) (expressions_of (drop l.i l.arguments)))
