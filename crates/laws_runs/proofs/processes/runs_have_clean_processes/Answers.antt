use Rattle.laws_runs.proofs.CleanRuns.{clean-after}
use Rattle.laws_runs.proofs.processes.runs_have_clean_processes.Goals as goal

pub returns : goal.returns
returns c = clean-after
