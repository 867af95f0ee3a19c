use Rattle.std.proofs.Common.{[], ◌∷◌, List, ap, sym, ◌∙◌}
use Rattle.std.specs.Option.{option_or}
use Rattle.model_tree.specs.Views.{modules_of}
use Rattle.model_tree.specs.declared.items.Module.{Module}
use Rattle.check_statements.specs.ModelRules.Passes.{constructs, fault_of}
use Rattle.check_statements.specs.ModelRules.Sites.{top_site}
use Rattle.check_statements.specs.CheckExpressions.Findings.{faults_of}
use Rattle.check_items.specs.Whole.{modules_fault}
use Rattle.check_items.proofs.ItemLemmas.{model_is}
use Rattle.check_items.proofs.models.construct_finding.Goals as goal

pub returns : goal.returns
returns c =
    let ms = modules_of c.args.tree.now.modules.items in
    let top = c.args.tree.now.top in
    c.first_finding.ensures
    ∙ ap (λ o. option_or o (faults_of c.top_finding.result))
    (c.in_ok-found.ensures ∙ ap (λ (xs : List Module). modules_fault (modules_of xs) (modules_of xs)) c.as_slice.ensures.value)
    ∙ ap (option_or (modules_fault ms ms)) (c.top_finding.ensures ∙ ap (λ (xs : List Module). fault_of constructs (top_site (modules_of xs) top ∷ [])) c.requires)
    ∙ sym (model_is ms top)
