use Rattle.laws_runs.proofs.Places.{standing-below}
use Rattle.laws_runs.proofs.standing.below_a_goal_are_unwind_blocks.Goals as goal

pub returns : goal.returns
returns c = standing-below
