use Rattle.laws_texts.proofs.Bounds.{small}
use Rattle.laws_texts.proofs.print_laws.print_is_short.Goals as goal

pub returns : goal.returns
returns c = λ text x h few. small text x h few
