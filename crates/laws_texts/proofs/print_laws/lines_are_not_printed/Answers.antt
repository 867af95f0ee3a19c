use Rattle.laws_texts.proofs.Unprinted.{same_text}
use Rattle.laws_texts.proofs.print_laws.lines_are_not_printed.Goals as goal

pub returns : goal.returns
returns c = λ x y e. same_text x y e
