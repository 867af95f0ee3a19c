use Rattle.laws_code.proofs.Everywhere.{known_everywhere}
use Rattle.laws_code.proofs.codes.types_are_known.Goals as goal

pub returns : goal.returns
returns c = λ m h. known_everywhere m h
