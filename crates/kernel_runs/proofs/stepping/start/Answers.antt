use Rattle.kernel_runs.proofs.Quiet.{quiet_goes, initialization_quiet}
use Rattle.kernel_phases.specs.SimModel.Phases.{initialization}
use Rattle.kernel_runs.proofs.stepping.start.Goals as goal

pub returns-in-Ok-clause-makes : goal.returns-in-Ok-clause-makes
returns-in-Ok-clause-makes c d h = quiet_goes c.initialize.new.k d (initialization d) (initialization_quiet d) (c.initialize.ensures.moves d h)
