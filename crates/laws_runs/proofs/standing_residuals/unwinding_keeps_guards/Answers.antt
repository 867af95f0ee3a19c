use Rattle.laws_runs.proofs.ResidualLemmas.{unw-unwound, guards-unwound, nothing-caught}
use Rattle.laws_runs.proofs.standing_residuals.unwinding_keeps_guards.Goals as goal

pub returns : goal.returns
returns c = record { again = unw-unwound; guards = guards-unwound; catches = nothing-caught }
