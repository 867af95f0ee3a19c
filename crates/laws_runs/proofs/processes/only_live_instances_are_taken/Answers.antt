use Rattle.laws_runs.proofs.CleanRuns.{live-taken}
use Rattle.laws_runs.proofs.processes.only_live_instances_are_taken.Goals as goal

pub returns : goal.returns
returns c = live-taken
