use Rattle.exec_events.proofs.notifying.notify.Goals as goal

pub returns-clause-steps : goal.returns-clause-steps
returns-clause-steps c d i h there = c.notify.ensures.moves _ (c.pass.ensures.steps d i h there)
