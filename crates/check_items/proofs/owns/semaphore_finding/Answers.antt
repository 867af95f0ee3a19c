use Rattle.std.proofs.Common.{Bool, not, ℕ, List, ap, sym, ◌∙◌}
use Rattle.std.specs.Option.{option_or}
use Rattle.model_tree.specs.declared.faults.Kind.TheVariants as kind
use Rattle.check_statements.specs.ModelRules.Operators.{is_integer}
use Rattle.check_statements.specs.ModelRules.Targets.{constant_type}
use Rattle.check_statements.specs.ModelRules.Items as items
use Rattle.check_statements.specs.ModelRules.Values as values
use Rattle.check_statements.specs.CheckNames.Places.{scope_of}
use Rattle.check_statements.specs.CheckExpressions.Findings.{faults_of, told_if}
use Rattle.check_items.proofs.ItemLemmas as lemmas
use Rattle.check_items.proofs.owns.semaphore_finding.Goals as goal

pub returns : goal.returns
returns c =
    let s = scope_of c.args.place.now in
    let line = c.args.line in
    let name = c.args.name.now in
    let x = c.args.constant in
    let t = told_if kind.TypeDiffers line s.around (values.fails is_integer (constant_type x.form)) in
    let r = told_if kind.SemaphoreRange line name (not (items.is_start x.form)) in
    c.first_finding-2.ensures
    ∙ ap (λ o. option_or o (faults_of c.constant_finding.result))
    (c.first_finding.ensures
    ∙ ap (λ o. option_or o (faults_of c.told_if-range.result))
    (c.told_if-types.ensures ∙ ap (told_if kind.TypeDiffers line s.around) (c.is_no_integer-differs.ensures ∙ ap (values.fails is_integer) c.constant_type.ensures))
    ∙ ap (option_or t)
    (c.told_if-range.ensures
    ∙ ap (λ (n : List ℕ). told_if kind.SemaphoreRange line n (not c.is_start.result)) c.bytes.ensures.value
    ∙ ap (λ (b : Bool). told_if kind.SemaphoreRange line name (not b)) c.is_start.ensures))
    ∙ ap (option_or (option_or t r)) c.constant_finding.ensures
    ∙ sym (lemmas.semaphore_is s line name x)
