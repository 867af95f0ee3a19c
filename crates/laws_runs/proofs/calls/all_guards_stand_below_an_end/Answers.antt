use Rattle.laws_runs.proofs.Ending.{all-below}
use Rattle.laws_runs.proofs.calls.all_guards_stand_below_an_end.Goals as goal

pub returns : goal.returns
returns x = all-below
