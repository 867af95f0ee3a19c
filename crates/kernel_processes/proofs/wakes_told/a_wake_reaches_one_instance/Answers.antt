use Rattle.kernel_processes.proofs.Wakes.{wake_rouses}
use Rattle.kernel_processes.proofs.wakes_told.a_wake_reaches_one_instance.Goals as goal

pub returns : goal.returns
returns c = record { one = wake_rouses }
