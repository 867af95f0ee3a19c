use Rattle.laws_texts.proofs.Bounds.{bounded}
use Rattle.laws_texts.proofs.print_laws.print_is_bounded.Goals as goal

pub returns : goal.returns
returns c = λ text x h. bounded text x h
