use Rattle.std.proofs.Common.{◌≡◌, suc, List, [], ◌∷◌, length, Option, arith, Some, None, refl, sym, ap, ◌∙◌}
use Rattle.std.proofs.lemmas.List.{length-map}
use Rattle.model_tree.specs.Tree as tree
use Rattle.model_tree.specs.Views.{expression_of, expressions_of}
use Rattle.model_tree.specs.declared.types.Parameter.{Parameter}
use Rattle.flat_design.specs.Code.{ArgumentTerm}
use Rattle.code_terms.specs.ModelRules.Scopes.{Scope}
use Rattle.code_terms.specs.CodeRules.Deeds.{with_two, argument, arguments}
use Rattle.code_terms.specs.CheckNames.Places.{scope_of}
use Rattle.code_deeds.proofs.calls.arguments_code.Goals as goal

without_rest : (y : Option ArgumentTerm) → with_two (λ (z : ArgumentTerm) zs. z ∷ zs) y None ≡ None
without_rest None = refl
without_rest (Some y) = refl

-- arguments are as many as parameters
other_count : (s : Scope) (ps : List Parameter) (es : List tree.Expression) → (length ps ≡ length es → ⊥) → None ≡ arguments s ps es
other_count s [] [] h = absurd (h refl)
other_count s [] (e ∷ es) h = refl
other_count s (p ∷ ps) [] h = refl
other_count s (p ∷ ps) (e ∷ es) h =
    sym (without_rest (argument s p.inout e))
    ∙ ap (with_two (λ (z : ArgumentTerm) zs. z ∷ zs) (argument s p.inout e)) (other_count s ps es (λ k. h (ap (λ n. suc n) k)))

pub returns-then-parameters-arguments : goal.returns-then-parameters-arguments
returns-then-parameters-arguments c =
    let ps = c.args.parameters.now in
    let es = c.args.arguments.now in
    other_count (scope_of c.args.place.now) ps (expressions_of es)
    (λ k. let e : length ps ≡ length es = k ∙ length-map es expression_of in omega arith)
