use Rattle.model_lexer.proofs.CutLaws.{cut_limited}
use Rattle.model_lexer.proofs.laws.limited_tokens.Goals as goal

pub returns : goal.returns
returns c = λ text ts. cut_limited text 0 ts
