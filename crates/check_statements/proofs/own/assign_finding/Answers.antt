use Rattle.std.proofs.Common.{ap, sym, ◌∙◌}
use Rattle.std.specs.Option.{option_or}
use Rattle.model_tree.specs.Tree as tree
use Rattle.model_tree.specs.Views.{expression_of, target_of}
use Rattle.check_actions.specs.ModelRules.Passes.{constructs, fault_at, fault_of}
use Rattle.check_actions.specs.ModelRules.Sites.{site, of_statement, option_sites, expression_sites}
use Rattle.check_actions.specs.CheckNames.Places.{scope_of}
use Rattle.check_actions.specs.CheckExpressions.Findings.{faults_of}
use Rattle.check_statements.specs.Own.{assign_fault}
use Rattle.check_statements.proofs.Found.{fault_append, assign_is}
use Rattle.check_statements.proofs.own.assign_finding.Goals as goal

pub returns : goal.returns
returns c =
    let s = scope_of c.args.place.now in
    let line = c.args.line in
    let t = target_of c.args.target.now in
    let e = expression_of c.args.value.now in
    c.first_finding.ensures
    ∙ ap (λ o. option_or o (faults_of c.first_finding-parts.result))
    (c.assign_own-own.ensures ∙ ap (assign_fault s line t) c.assigned_differs-differs.ensures ∙ sym (assign_is s line t e))
    ∙ ap (option_or (fault_at constructs (site s line (of_statement (tree.assign line t e)))))
    (c.first_finding-parts.ensures
    ∙ ap (λ o. option_or o (faults_of c.judge.result.finding)) c.option_finding.ensures
    ∙ ap (option_or (fault_of constructs (option_sites s t.index))) c.judge.ensures.finding
    ∙ sym (fault_append (option_sites s t.index) (expression_sites s e)))
