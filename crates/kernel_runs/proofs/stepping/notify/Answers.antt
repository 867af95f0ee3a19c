use Rattle.kernel_runs.proofs.Quiet.{quiet_goes, delta_quiet}
use Rattle.kernel_phases.specs.SimModel.Phases.{delta_step}
use Rattle.kernel_runs.proofs.stepping.notify.Goals as goal

pub returns-in-Ok-clause-makes : goal.returns-in-Ok-clause-makes
returns-in-Ok-clause-makes c d h = quiet_goes c.delta.new.k d (delta_step d) (delta_quiet d) (c.delta.ensures.moves d h)
