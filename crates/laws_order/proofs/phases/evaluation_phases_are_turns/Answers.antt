use Rattle.laws_order.proofs.WholePhases.{phase-evaluated}
use Rattle.laws_order.proofs.phases.evaluation_phases_are_turns.Goals as goal

pub returns : goal.returns
returns c = λ d script free. phase-evaluated d free script
