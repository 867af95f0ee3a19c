use Rattle.laws_runs.proofs.Blamed.{blamed}
use Rattle.laws_runs.proofs.exact.protocol_faults_come_with_entries.Goals as goal

pub returns : goal.returns
returns x = blamed
