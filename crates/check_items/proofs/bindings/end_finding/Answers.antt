use Rattle.std.proofs.Common.{ap, sym, ◌∙◌}
use Rattle.std.specs.Option.{option_or}
use Rattle.model_tree.specs.declared.faults.Kind.TheVariants as kind
use Rattle.check_statements.specs.ModelRules.Names as names
use Rattle.check_statements.specs.CheckNames.Places.{scope_of}
use Rattle.check_statements.specs.CheckExpressions.Findings.{faults_of, told}
use Rattle.check_items.proofs.ItemLemmas as lemmas
use Rattle.check_items.proofs.bindings.end_finding.Goals as goal

pub returns : goal.returns
returns c =
    let s = scope_of c.args.place.now in
    let e = c.args.end.now in
    c.first_finding.ensures
    ∙ ap (λ o. option_or o (faults_of c.wrong_end.result)) c.unknown_end.ensures
    ∙ ap (option_or (told kind.UnknownName e.line (names.unknown_end s e.name e.member))) c.wrong_end.ensures
    ∙ sym (lemmas.end_is s e)
