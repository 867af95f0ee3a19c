use Rattle.transport_phases.proofs.LawfulLemmas.{lawful_empty, lawful_step, lawful_front, lawful_unbroken}
use Rattle.transport_phases.proofs.lawful.lawful_exactly.Goals as goal

pub returns-clause-empty : goal.returns-clause-empty
returns-clause-empty c = lawful_empty

pub returns-clause-step : goal.returns-clause-step
returns-clause-step c = lawful_step

pub returns-clause-front : goal.returns-clause-front
returns-clause-front c = lawful_front

pub returns-clause-whole : goal.returns-clause-whole
returns-clause-whole c = lawful_unbroken
