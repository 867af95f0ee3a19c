use Rattle.std.proofs.Common.{sym, ◌∙◌, subst}
use Rattle.process_state.specs.Bodies.{IsStatement}
use Rattle.process_bodies.proofs.body.Body.statement_in_place.Goals as goal

pub returns-in-Batch : goal.returns-in-Batch
returns-in-Batch c = absurd (subst IsStatement (sym c.next.ensures.value ∙ c.in-Batch.is) c.requires)

pub returns-in-Leave : goal.returns-in-Leave
returns-in-Leave c = absurd (subst IsStatement (sym c.next.ensures.value ∙ c.in-Leave.is) c.requires)

pub returns-in-Done : goal.returns-in-Done
returns-in-Done c = absurd (subst IsStatement (sym c.next.ensures.value ∙ c.in-Done.is) c.requires)

pub returns-in-Goal : goal.returns-in-Goal
returns-in-Goal c = absurd (subst IsStatement (sym c.next.ensures.value ∙ c.in-Goal.is) c.requires)

pub returns-in-Nothing : goal.returns-in-Nothing
returns-in-Nothing c = absurd (subst IsStatement (sym c.next.ensures.value ∙ c.in-Nothing.is) c.requires)
