use Rattle.laws_design.proofs.Sound.{sound}
use Rattle.laws_design.proofs.sound_designs.accepted_designs_are_sound.Goals as goal

pub returns : goal.returns
returns c = λ m d accepted design laid. sound m accepted d design laid
