use Rattle.kernel_processes.proofs.Wakes.{fire_rouses}
use Rattle.kernel_processes.proofs.wakes_told.an_event_reaches_each_instance.Goals as goal

pub returns : goal.returns
returns c = record { each = fire_rouses }
