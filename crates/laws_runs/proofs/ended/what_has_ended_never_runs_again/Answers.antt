use Rattle.laws_runs.proofs.EndedNames.{ended-stays, not-taken, not-on_top}
use Rattle.laws_runs.proofs.ended.what_has_ended_never_runs_again.Goals as goal

pub returns-clause-stays : goal.returns-clause-stays
returns-clause-stays c = ended-stays

pub returns-clause-taken : goal.returns-clause-taken
returns-clause-taken c = λ design script sound n choices first reached q h m more e next later to. not-taken design script sound n choices first reached q h m more e later next to

pub returns-clause-steps : goal.returns-clause-steps
returns-clause-steps c = λ design script sound n choices first reached q h m more e rest later top. not-on_top design script sound n choices first reached q h m more e later rest top
