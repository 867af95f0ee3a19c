use Rattle.laws_code.proofs.NamesMet.{without_fault}
use Rattle.laws_code.proofs.rules.uses_are_met.Goals as goal

pub returns : goal.returns
returns c = λ m h. without_fault m h
