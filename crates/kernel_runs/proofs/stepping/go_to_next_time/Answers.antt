use Rattle.kernel_runs.proofs.Quiet.{quiet_goes, timed_quiet}
use Rattle.kernel_phases.specs.SimModel.Phases.{timed_step}
use Rattle.kernel_runs.proofs.stepping.go_to_next_time.Goals as goal

pub returns-in-Ok-clause-makes : goal.returns-in-Ok-clause-makes
returns-in-Ok-clause-makes c d h = quiet_goes c.timed.new.k d (timed_step d) (timed_quiet d) (c.timed.ensures.moves d h)
