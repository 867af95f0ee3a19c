use Rattle.exec_control.proofs.endings.end.Goals as goal

pub returns-clause-steps : goal.returns-clause-steps
returns-clause-steps c d i h there = c.fire.ensures.moves _ (c.leave_for_good.ensures.steps d i h there)
