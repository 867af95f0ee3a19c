use Rattle.laws_runs.proofs.EndedNames.{left-never_begun}
use Rattle.laws_runs.proofs.left.a_guard_that_was_left_never_runs_its_unwind_block.Goals as goal

pub returns : goal.returns
returns c = left-never_begun
