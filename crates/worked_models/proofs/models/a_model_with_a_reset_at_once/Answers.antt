use Rattle.std.proofs.Common.{refl}
use Rattle.model_lexer.specs.ModelTree.Vocabulary.{word_of}
use Rattle.model_lexer.specs.Tokens.{symbol_of}
use Rattle.clocked.specs.Words.{new_word_of}
use Rattle.clocked.proofs.Sound.{run_expands}
use Rattle.worked_models.specs.Models as models
use Rattle.worked_models.proofs.models.a_model_with_a_reset_at_once.Goals as goal

pub returns : goal.returns
unfolding word_of symbol_of new_word_of
returns c = run_expands models.at_once models.at_once_expanded refl
