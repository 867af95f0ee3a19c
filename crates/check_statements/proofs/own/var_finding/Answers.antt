use Rattle.std.proofs.Common.{ap, sym, ◌∙◌}
use Rattle.std.specs.Prelude.{option_map}
use Rattle.std.specs.Option.{option_or}
use Rattle.model_tree.specs.Tree as tree
use Rattle.model_tree.specs.Views.{expression_of}
use Rattle.model_tree.specs.declared.faults.Kind.TheVariants as kind
use Rattle.check_actions.specs.ModelRules.Meanings.{variable_type}
use Rattle.check_actions.specs.ModelRules.Targets.{misfits}
use Rattle.check_actions.specs.ModelRules.Values.{statement_differs}
use Rattle.check_actions.specs.ModelRules.Passes.{constructs, fault_of}
use Rattle.check_actions.specs.ModelRules.Sites.{variable_type_sites}
use Rattle.check_actions.specs.CheckNames.Places.{scope_of}
use Rattle.check_actions.specs.CheckExpressions.Findings.{faults_of, told_if}
use Rattle.check_statements.proofs.Found.{var_is}
use Rattle.check_statements.proofs.own.var_finding.Goals as goal

pub returns : goal.returns
returns c =
    let s = scope_of c.args.place.now in
    let line = c.args.line in
    let t = c.args.var_type in
    let name = c.args.name.now in
    let e = option_map expression_of c.args.value.now in
    let own = told_if kind.TypeDiffers line s.around (statement_differs s (tree.var line t name e)) in
    c.first_finding.ensures
    ∙ ap (λ o. option_or o (faults_of c.first_finding-parts.result))
    (c.told_if-own.ensures
    ∙ ap (told_if kind.TypeDiffers line s.around) (c.misfits-differs.ensures ∙ ap (λ v. misfits v c.option_type.result) c.variable_type.ensures ∙ ap (misfits (variable_type t)) c.option_type.ensures))
    ∙ ap (option_or own)
    (c.first_finding-parts.ensures
    ∙ ap (λ o. option_or o (faults_of c.option_finding.result)) c.variable_type_finding.ensures
    ∙ ap (option_or (fault_of constructs (variable_type_sites s t))) c.option_finding.ensures)
    ∙ sym (var_is s line t name e)
