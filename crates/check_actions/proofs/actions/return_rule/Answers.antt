use Rattle.std.proofs.Common.{not, ap, sym, ◌∙◌}
use Rattle.model_tree.specs.declared.faults.Kind.TheVariants as kind
use Rattle.check_expressions.specs.ModelRules.Calls.{same_bool}
use Rattle.check_expressions.specs.Findings.{told_if}
use Rattle.check_actions.proofs.Parts.{or_nothing}
use Rattle.check_actions.proofs.actions.return_rule.Goals as goal

pub returns : goal.returns
returns c =
    let around = c.args.place.now.around.now in
    c.told_if.ensures
    ∙ ap (told_if kind.ReturnDiffers c.args.line around) (c.is_uneven-uneven.ensures ∙ ap (λ b. not (same_bool b c.args.has_value)) c.is_some.ensures)
    ∙ sym (or_nothing _)
