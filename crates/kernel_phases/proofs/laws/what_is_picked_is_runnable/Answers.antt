use Rattle.kernel_phases.proofs.Sure.{sure}
use Rattle.kernel_phases.proofs.laws.what_is_picked_is_runnable.Goals as goal

pub returns : goal.returns
returns c = sure
