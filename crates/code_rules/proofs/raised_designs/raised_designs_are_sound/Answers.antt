use Rattle.code_rules.proofs.Designs.{sound}
use Rattle.code_rules.proofs.raised_designs.raised_designs_are_sound.Goals as goal

pub returns : goal.returns
returns c = λ d after differs rooms s. sound d after differs rooms s
