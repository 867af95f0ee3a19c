use Rattle.bus_runs.proofs.OneRun.{same_runs}
use Rattle.bus_runs.proofs.run_laws.one_run.Goals as goal

pub returns : goal.returns
returns c = λ bus one other can first second. same_runs bus can one other first second
