use Rattle.model_lexer.proofs.CutLaws.{reads_keeps}
use Rattle.model_lexer.proofs.laws.reads_a_language.Goals as goal

pub returns : goal.returns
returns c = reads_keeps
