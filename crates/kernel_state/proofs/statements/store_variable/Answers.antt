use Rattle.kernel_state.proofs.statements.store_variable.Goals as goal

pub returns-clause-steps : goal.returns-clause-steps
returns-clause-steps c d i h there = c.set_variable.ensures.moves _ (c.pass.ensures.steps d i h there)
