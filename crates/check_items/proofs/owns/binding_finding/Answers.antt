use Rattle.std.proofs.Common.{ap, sym, ◌∙◌}
use Rattle.std.specs.Option.{option_or}
use Rattle.model_tree.specs.Tree as tree
use Rattle.model_tree.specs.declared.faults.Kind.TheVariants as kind
use Rattle.check_statements.specs.ModelRules.Items as items
use Rattle.check_statements.specs.ModelRules.Passes.{constructs, fault_at}
use Rattle.check_statements.specs.ModelRules.Sites.{site, of_end}
use Rattle.check_statements.specs.CheckNames.Places.{scope_of}
use Rattle.check_statements.specs.CheckExpressions.Findings.{faults_of, told}
use Rattle.check_items.proofs.ItemLemmas as lemmas
use Rattle.check_items.proofs.owns.binding_finding.Goals as goal

pub returns : goal.returns
returns c =
    let s = scope_of c.args.place.now in
    let line = c.args.line in
    let l = c.args.left.now in
    let r = c.args.right.now in
    c.first_finding-2.ensures
    ∙ ap (λ o. option_or o (faults_of c.first_finding.result)) c.bind_finding-own.ensures
    ∙ ap (option_or (told kind.BadBinding line (items.binding_in_item s (tree.bind line l r))))
    (c.first_finding.ensures
    ∙ ap (λ o. option_or o (faults_of c.end_finding-2.result)) c.end_finding.ensures
    ∙ ap (option_or (fault_at constructs (site s l.line (of_end l)))) c.end_finding-2.ensures)
    ∙ sym (lemmas.bind_is s line l r)
