use Rattle.std.proofs.Common.{ap, sym, ◌∙◌}
use Rattle.std.specs.Option.{option_or}
use Rattle.model_tree.specs.Tree as tree
use Rattle.model_tree.specs.declared.faults.Kind.TheVariants as kind
use Rattle.check_statements.specs.ModelRules.Meanings.{signal_type}
use Rattle.check_statements.specs.ModelRules.Targets.{misfits}
use Rattle.check_statements.specs.ModelRules.Values as values
use Rattle.check_statements.specs.ModelRules.Passes.{constructs, fault_of}
use Rattle.check_statements.specs.ModelRules.Sites.{type_site}
use Rattle.check_statements.specs.CheckNames.Places.{scope_of}
use Rattle.check_statements.specs.CheckExpressions.Findings.{faults_of, told_if}
use Rattle.check_items.proofs.ItemLemmas as lemmas
use Rattle.check_items.proofs.owns.signal_finding.Goals as goal

pub returns : goal.returns
returns c =
    let s = scope_of c.args.place.now in
    let line = c.args.line in
    let x = c.args.signal.now in
    let own = told_if kind.TypeDiffers line s.around (values.item_differs (tree.signal line x)) in
    c.first_finding.ensures
    ∙ ap (λ o. option_or o (faults_of c.first_finding-parts.result))
    (c.told_if-own.ensures
    ∙ ap (told_if kind.TypeDiffers line s.around) (c.misfits-differs.ensures ∙ ap (λ v. misfits v c.initial_type.result) c.signal_type.ensures ∙ ap (misfits (signal_type x.value_type)) c.initial_type.ensures))
    ∙ ap (option_or own)
    (c.first_finding-parts.ensures
    ∙ ap (λ o. option_or o (faults_of c.constant_finding.result)) c.type_finding.ensures
    ∙ ap (option_or (fault_of constructs (type_site s x.value_type))) c.constant_finding.ensures)
    ∙ sym (lemmas.signal_is s line x)
