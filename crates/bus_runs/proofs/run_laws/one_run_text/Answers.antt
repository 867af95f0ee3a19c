use Rattle.bus_runs.proofs.OneRun.{same_run_texts}
use Rattle.bus_runs.proofs.run_laws.one_run_text.Goals as goal

pub returns : goal.returns
returns c = λ bus one other can first second. same_run_texts bus one other can first second
