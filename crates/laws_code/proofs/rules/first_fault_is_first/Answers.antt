use Rattle.laws_code.proofs.Passes.{decided}
use Rattle.laws_code.proofs.rules.first_fault_is_first.Goals as goal

pub returns : goal.returns
returns c = λ m f h. decided m f h
