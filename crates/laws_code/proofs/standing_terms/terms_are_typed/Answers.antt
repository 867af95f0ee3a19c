use Rattle.std.proofs.Common.{sym, subst, ◌∙◌}
use Rattle.code_rules.specs.FlatDesign.Typed.{HasType}
use Rattle.code_rules.specs.ModelRules.Operators.{evaluated_as}
use Rattle.laws_code.proofs.Coded.{same_some}
use Rattle.laws_code.proofs.Terms.{term_typed}
use Rattle.laws_code.proofs.standing_terms.terms_are_typed.Goals as goal

pub returns : goal.returns
returns g = λ s c e at t x names formed typed is.
    let k = term_typed c s names e at formed t typed in
    subst (λ y. HasType c y (evaluated_as t)) (same_some k.0 x (sym k.1 ∙ is)) k.2
