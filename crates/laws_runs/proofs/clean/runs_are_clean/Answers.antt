use Rattle.laws_runs.proofs.MarkedRuns.{clean-whole}
use Rattle.laws_runs.proofs.clean.runs_are_clean.Goals as goal

pub returns : goal.returns
returns c = clean-whole
