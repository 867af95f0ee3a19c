use Rattle.laws_order.proofs.WholePhases.{phase-run}
use Rattle.laws_order.proofs.phases.turns_of_a_phase_are_a_run.Goals as goal

pub returns : goal.returns
returns c = λ d script free. phase-run d free script
