use Rattle.laws_runs.proofs.CleanRuns.{ended-nowhere, ended-free, ended-left}
use Rattle.laws_runs.proofs.processes.what_has_ended_is_nowhere.Goals as goal

pub returns : goal.returns
returns c design script steps choices last reached p i at over =
    (ended-nowhere design script steps choices last reached p i at over, ended-free design script steps choices last reached p i at over, ended-left design script steps choices last reached p i at over)
