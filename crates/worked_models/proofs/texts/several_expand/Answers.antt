use Rattle.std.proofs.Common.{refl}
use Rattle.model_lexer.specs.ModelTree.Vocabulary.{word_of}
use Rattle.model_lexer.specs.Tokens.{symbol_of}
use Rattle.clocked.specs.Words.{new_word_of}
use Rattle.worked_models.specs.Texts as texts
use Rattle.clocked.proofs.Sound.{run_expands}
use Rattle.worked_models.proofs.texts.several_expand.Goals as goal

pub returns : goal.returns
unfolding word_of symbol_of new_word_of
returns c = run_expands texts.several texts.several_expanded refl
