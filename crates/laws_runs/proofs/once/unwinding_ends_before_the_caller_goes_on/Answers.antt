use Rattle.laws_runs.proofs.Callers.{run-over, run-done}
use Rattle.laws_runs.proofs.once.unwinding_ends_before_the_caller_goes_on.Goals as goal

pub returns-clause-over : goal.returns-clause-over
returns-clause-over c = λ design script sound n choices first d reached p q rest gs begun top m more e there.
    run-over design script sound n choices first d reached q gs begun p rest top m more e there

pub returns-clause-done : goal.returns-clause-done
returns-clause-done c = λ design script sound n choices first d reached p q rest gs begun top m more e there.
    run-done design script sound n choices first d reached q gs begun p rest top m more e there
