use Rattle.laws_reached.proofs.KernelCounts.{kernel-events}
use Rattle.laws_reached.proofs.counts.events_keep_their_number.Goals as goal

pub returns : goal.returns
returns c = kernel-events
