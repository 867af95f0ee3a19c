use Rattle.run_input.proofs.Refusals.{text_design, text_fault}
use Rattle.run_input.proofs.judging.judge_model.Goals as goal

pub returns-in-Ok-clause-accepted : goal.returns-in-Ok-clause-accepted
returns-in-Ok-clause-accepted c = text_design _ _ _ c.in-Ok.ensures.reads c.judge_tree.ensures.accepted c.judge_tree.ensures.design

pub returns-in-Ok-clause-fault : goal.returns-in-Ok-clause-fault
returns-in-Ok-clause-fault c = text_fault _ _ _ c.in-Ok.ensures.reads c.judge_tree.ensures.fault
