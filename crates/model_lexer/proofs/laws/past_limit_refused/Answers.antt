use Rattle.model_lexer.proofs.CutLaws.{no_cut_past}
use Rattle.model_lexer.proofs.laws.past_limit_refused.Goals as goal

pub returns : goal.returns
returns c = no_cut_past
