use Rattle.laws_reached.proofs.Kernels.{kernel-design, kernel-names, kernel-numbers}
use Rattle.laws_reached.proofs.designs.reached_designs_are_sound.Goals as goal

pub returns : goal.returns
returns c = record { sound = kernel-design; names = kernel-names; numbers = kernel-numbers }
