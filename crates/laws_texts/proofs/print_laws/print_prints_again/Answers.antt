use Rattle.laws_texts.proofs.WholeTexts.{printed_again}
use Rattle.laws_texts.proofs.print_laws.print_prints_again.Goals as goal

pub returns : goal.returns
returns c = λ x first keeps h. printed_again x first keeps h
