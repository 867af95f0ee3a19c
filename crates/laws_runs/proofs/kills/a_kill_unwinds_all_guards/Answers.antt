use Rattle.laws_runs.proofs.Killing.{kill-unwinds, reset-unwinds}
use Rattle.laws_runs.proofs.kills.a_kill_unwinds_all_guards.Goals as goal

pub returns-clause-kill : goal.returns-clause-kill
returns-clause-kill c = kill-unwinds

pub returns-clause-reset : goal.returns-clause-reset
returns-clause-reset c = reset-unwinds
