use Rattle.session.proofs.traces.list_choice.Goals as goal

pub returns-in-Some-clause-lists : goal.returns-in-Some-clause-lists
returns-in-Some-clause-lists g c = rw c.in-Some.is c.list_line.ensures.lists
