use Rattle.model_parser.proofs.ModelLaws.{reads_one}
use Rattle.model_parser.proofs.parsing.one_tree.Goals as goal

pub returns : goal.returns
returns c = reads_one
