use Rattle.bus_runs.proofs.OneRun.{same_written}
use Rattle.bus_runs.proofs.run_laws.one_written_text.Goals as goal

pub returns : goal.returns
returns c = λ text one other first second. same_written text one other first second
