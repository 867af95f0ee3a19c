use Rattle.model_lexer.proofs.CutLaws.{cut_plain}
use Rattle.model_lexer.proofs.laws.plain_tokens.Goals as goal

pub returns : goal.returns
returns c = λ text ts. cut_plain text 0 ts
