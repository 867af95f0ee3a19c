use Rattle.laws_reached.proofs.Reaching.{design-is, step-design, taking-design}
use Rattle.laws_reached.proofs.KernelCounts.{kernel-code}
use Rattle.laws_reached.proofs.designs.designs_stay.Goals as goal

pub returns : goal.returns
returns c = record { stays = design-is; steps = step-design; takings = taking-design; code = kernel-code }
