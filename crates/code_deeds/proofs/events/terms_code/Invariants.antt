use Rattle.std.proofs.Common.{◌≡◌, drop}
use Rattle.model_tree.specs.Views.{expressions_of}
use Rattle.code_terms.specs.CodeRules.Deeds as deeds
use Rattle.code_terms.specs.CodeRules.Terms.{term_of}
use Rattle.code_terms.specs.CheckNames.Places.{scope_of}
use Rattle.code_deeds.specs.Homes.{terms_of}
use Rattle.code_deeds.proofs.Each.{behind}
use Rattle.code_deeds.proofs.events.terms_code.Given as goal

abbrev pub invariant-loop-expression : goal.invariant-loop-expression
invariant-loop-expression l =
    deeds.each (term_of (scope_of l.place)) (expressions_of l.expressions) ≡ behind (terms_of l.done.items) (deeds.each (term_of (scope_of l.place)) (expressions_of (drop l.expression-index l.expressions)))
