use Rattle.std.proofs.Common.{sym, ap, ◌∙◌, subst}
use Rattle.process_bodies.specs.Bodies.{first_owed, IsOwed}
use Rattle.process_bodies.proofs.body.Body.owed.Goals as goal

pub owe_less-requires-clause-owes : goal.owe_less-requires-clause-owes
owe_less-requires-clause-owes c = c.next.ensures.somebody c.in-Batch.field-0 c.in-Batch.field-1 c.in-Batch.is

pub returns-in-Batch-clause-left : goal.returns-in-Batch-clause-left
returns-in-Batch-clause-left c = λ owed. c.owe_less.ensures.left

pub returns-in-Batch-clause-other : goal.returns-in-Batch-clause-other
returns-in-Batch-clause-other c = λ e. absurd (c.owe_less.ensures.some e)

pub returns-in-Statement-clause-answer : goal.returns-in-Statement-clause-answer
returns-in-Statement-clause-answer c = ap first_owed (sym c.in-Statement.is ∙ c.next.ensures.value)

pub returns-in-Statement-clause-left : goal.returns-in-Statement-clause-left
returns-in-Statement-clause-left c = λ owed. absurd (subst IsOwed (sym c.next.ensures.value ∙ c.in-Statement.is) owed)

pub returns-in-Leave-clause-answer : goal.returns-in-Leave-clause-answer
returns-in-Leave-clause-answer c = ap first_owed (sym c.in-Leave.is ∙ c.next.ensures.value)

pub returns-in-Leave-clause-left : goal.returns-in-Leave-clause-left
returns-in-Leave-clause-left c = λ owed. absurd (subst IsOwed (sym c.next.ensures.value ∙ c.in-Leave.is) owed)

pub returns-in-Done-clause-answer : goal.returns-in-Done-clause-answer
returns-in-Done-clause-answer c = ap first_owed (sym c.in-Done.is ∙ c.next.ensures.value)

pub returns-in-Done-clause-left : goal.returns-in-Done-clause-left
returns-in-Done-clause-left c = λ owed. absurd (subst IsOwed (sym c.next.ensures.value ∙ c.in-Done.is) owed)

pub returns-in-Goal-clause-answer : goal.returns-in-Goal-clause-answer
returns-in-Goal-clause-answer c = ap first_owed (sym c.in-Goal.is ∙ c.next.ensures.value)

pub returns-in-Goal-clause-left : goal.returns-in-Goal-clause-left
returns-in-Goal-clause-left c = λ owed. absurd (subst IsOwed (sym c.next.ensures.value ∙ c.in-Goal.is) owed)

pub returns-in-Nothing-clause-answer : goal.returns-in-Nothing-clause-answer
returns-in-Nothing-clause-answer c = ap first_owed (sym c.in-Nothing.is ∙ c.next.ensures.value)

pub returns-in-Nothing-clause-left : goal.returns-in-Nothing-clause-left
returns-in-Nothing-clause-left c = λ owed. absurd (subst IsOwed (sym c.next.ensures.value ∙ c.in-Nothing.is) owed)
