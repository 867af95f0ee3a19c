use Rattle.laws_reached.proofs.KernelCounts.{kernel-semaphores, kernel-room}
use Rattle.laws_reached.proofs.counts.semaphores_are_within.Goals as goal

pub returns : goal.returns
returns c = record { steps = kernel-semaphores; room = kernel-room }
