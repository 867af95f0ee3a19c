use Rattle.laws_runs.proofs.EntryJudgements.{judged-exactly, judged-freed}
use Rattle.laws_runs.proofs.exact.faults_of_the_protocol_are_exact.Goals as goal

pub returns-clause-live : goal.returns-clause-live
returns-clause-live c = judged-exactly

pub returns-clause-freed : goal.returns-clause-freed
returns-clause-freed c = judged-freed
