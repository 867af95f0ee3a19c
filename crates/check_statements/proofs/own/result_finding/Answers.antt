use Rattle.std.proofs.Common.{None, ap, sym, ◌∙◌}
use Rattle.std.specs.Option.{option_or}
use Rattle.model_tree.specs.Tree as tree
use Rattle.model_tree.specs.Views.{operation_of}
use Rattle.check_actions.specs.ModelRules.declared.needs.Need.TheVariants as need_of
use Rattle.check_actions.specs.ModelRules.Names.{optional}
use Rattle.check_actions.specs.ModelRules.Passes.{constructs, fault_at}
use Rattle.check_actions.specs.ModelRules.Sites.{site, of_statement}
use Rattle.check_actions.specs.CheckNames.Places.{scope_of}
use Rattle.check_actions.specs.CheckExpressions.Findings.{faults_of}
use Rattle.check_actions.specs.Uses.{site_fault}
use Rattle.check_statements.proofs.Found.{operate_is}
use Rattle.check_statements.proofs.own.result_finding.Goals as goal

pub returns : goal.returns
returns c =
    let s = scope_of c.args.place.now in
    let line = c.args.line in
    let name = c.args.name.now in
    let o = operation_of c.args.operation.now in
    c.first_finding.ensures
    ∙ ap (λ f. option_or f (faults_of c.operate_finding.result))
    (c.result_own-own.ensures
    ∙ ap (λ d. site_fault s line (optional name need_of.Variable) d None) c.result_differs-differs.ensures
    ∙ sym (operate_is s line name c.args.at o))
    ∙ ap (option_or (fault_at constructs (site s line (of_statement (tree.operate line name c.args.at o))))) c.operate_finding.ensures
