use Rattle.exec_control.proofs.exceptions.throw_owed.Goals as goal

pub throw_at-requires-clause-may : goal.throw_at-requires-clause-may
throw_at-requires-clause-may c = c.requires.owes

pub returns-clause-does : goal.returns-clause-does
returns-clause-does c = c.throw_at.ensures.does
