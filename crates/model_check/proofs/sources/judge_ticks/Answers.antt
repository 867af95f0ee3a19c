use Rattle.std.proofs.Common.{ap, sym, ◌∙◌}
use Rattle.model_tree.specs.WholeTree.{model_of}
use Rattle.code_rules.specs.ModelRules.Passes.{first_fault}
use Rattle.tick_rules.specs.TickTrees.Ticks.{ticks}
use Rattle.tick_rules.specs.Sources.{told_fault}
use Rattle.model_check.proofs.TickJudgements.{told_of, refused_with}
use Rattle.model_check.proofs.sources.judge_ticks.Goals as goal

pub returns-in-Ok-clause-accepted : goal.returns-in-Ok-clause-accepted
returns-in-Ok-clause-accepted c = ap first_fault (sym c.with_ticks-judged.ensures.model) ∙ c.in-Ok.ensures.accepted

pub returns-in-Err-Refused-clause-refused : goal.returns-in-Err-Refused-clause-refused
returns-in-Err-Refused-clause-refused c =
    let refused = c.in-Err-Refused in
    let found = refused_with refused.field-0 refused.fault (first_fault (model_of c.with_ticks-judged.result)) refused.field-0-is refused.ensures.refused in
    told_of told_fault c.told_fault.result c.first_unfit-unfit.result _ (first_fault (ticks c.args.resolution (model_of c.args.tree))) refused.fault c.first_unfit-unfit.ensures (ap first_fault (sym c.with_ticks-judged.ensures.model) ∙ found) c.told_fault.ensures
