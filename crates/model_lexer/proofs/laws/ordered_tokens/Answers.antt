use Rattle.model_lexer.proofs.CutLaws.{cut_ordered}
use Rattle.model_lexer.proofs.laws.ordered_tokens.Goals as goal

pub returns : goal.returns
returns c = λ text ts. cut_ordered text 0 ts
