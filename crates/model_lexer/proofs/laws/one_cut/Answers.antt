use Rattle.model_lexer.proofs.Cuts.{one_cut_from}
use Rattle.model_lexer.proofs.laws.one_cut.Goals as goal

pub returns : goal.returns
returns c = λ text ts us. one_cut_from text 0 ts us
