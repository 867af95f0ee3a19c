use Rattle.laws_runs.proofs.RunEnds.{no-end}
use Rattle.laws_runs.proofs.runs.no_earlier_end.Goals as goal

pub returns : goal.returns
returns c = no-end
