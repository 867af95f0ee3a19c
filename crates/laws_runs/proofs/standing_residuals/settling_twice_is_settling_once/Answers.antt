use Rattle.laws_runs.proofs.ResidualLemmas.{settle-settled}
use Rattle.laws_runs.proofs.standing_residuals.settling_twice_is_settling_once.Goals as goal

pub returns : goal.returns
returns c = settle-settled
