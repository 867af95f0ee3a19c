use Rattle.laws_code.proofs.Blocks.{coded}
use Rattle.laws_code.proofs.codes.statements_have_code.Goals as goal

pub returns : goal.returns
returns c = λ h s x known numbered clean. coded x h s known numbered clean
