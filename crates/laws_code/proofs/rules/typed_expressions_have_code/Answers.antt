use Rattle.laws_code.proofs.Coded.{coded}
use Rattle.laws_code.proofs.rules.typed_expressions_have_code.Goals as goal

pub returns : goal.returns
returns c = λ s e h. coded s e h
