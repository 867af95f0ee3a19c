use Rattle.laws_runs.proofs.GoalSteps.{takes-empty}
use Rattle.laws_runs.proofs.StackMoves.{only-top}
use Rattle.laws_runs.proofs.stacks.steps_move_only_the_top.Goals as goal

pub returns-clause-steps : goal.returns-clause-steps
returns-clause-steps c = only-top

pub returns-clause-takings : goal.returns-clause-takings
returns-clause-takings c = takes-empty
