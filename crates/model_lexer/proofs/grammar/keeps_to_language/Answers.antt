use Rattle.model_lexer.proofs.GrammarTokens.{keeps_to}
use Rattle.model_lexer.proofs.grammar.keeps_to_language.Goals as goal

pub returns : goal.returns
returns c = keeps_to
