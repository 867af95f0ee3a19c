use Rattle.laws_runs.proofs.TypedLeft.{settle-fits, past-fits}
use Rattle.laws_runs.proofs.TypedUnwound.{unw-fits, raise-fits}
use Rattle.laws_runs.proofs.typed_residuals.moves_keep_residuals_typed.Goals as goal

pub returns : goal.returns
returns c = record {
  settles = settle-fits;
  passes = past-fits;
  unwinds = λ d outer home r k h. unw-fits d outer home r h;
  raises = raise-fits;
}
