use Rattle.laws_texts.proofs.WholeTexts.{printed_reads}
use Rattle.laws_texts.proofs.print_laws.print_reads_back.Goals as goal

pub returns : goal.returns
returns c = λ x first keeps h. printed_reads x first keeps h
