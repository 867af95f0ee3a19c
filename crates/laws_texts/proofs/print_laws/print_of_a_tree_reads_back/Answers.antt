use Rattle.model_print.specs.ModelTree.WholeTree.{source_of}
use Rattle.laws_texts.proofs.WholeTexts.{printed_reads}
use Rattle.laws_texts.proofs.print_laws.print_of_a_tree_reads_back.Goals as goal

pub returns : goal.returns
returns c = λ t. printed_reads (source_of t) t.limits t.language t.sound
