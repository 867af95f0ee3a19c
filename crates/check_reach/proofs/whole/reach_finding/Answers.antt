use Rattle.std.proofs.Common.{List, ap, ◌∙◌}
use Rattle.model_tree.specs.declared.items.Module.{Module}
use Rattle.model_tree.specs.WholeTree.{model_of}
use Rattle.model_tree.specs.Views.{modules_of}
use Rattle.check_expressions.specs.ModelRules.Names.{first}
use Rattle.check_reach.specs.Findings.{module_fault}
use Rattle.check_reach.proofs.SetLaws.{if_ok}
use Rattle.check_reach.proofs.SiteWalk.{statements_decide}
use Rattle.check_reach.proofs.whole.reach_finding.Goals as goal

pub returns : goal.returns
returns c =
    if_ok c.modules_finding.result
    (λ found h. h ∙ ap (λ (ms : List Module). first module_fault (modules_of ms)) c.as_slice.ensures.value ∙ statements_decide (model_of c.args.tree.now)) c.modules_finding.ensures
