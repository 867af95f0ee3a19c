use Rattle.std.proofs.Common.{refl}
use Rattle.laws_reached.proofs.Reaching.{reached-start}
use Rattle.laws_reached.proofs.runs.runs_begin.Goals as goal

pub returns : goal.returns
returns c design script sound = (reached-start design script sound, refl, refl, refl, refl)
