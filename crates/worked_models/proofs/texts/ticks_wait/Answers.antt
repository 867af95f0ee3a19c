use Rattle.std.proofs.Common.{refl}
use Rattle.model_lexer.specs.ModelTree.Vocabulary.{word_of}
use Rattle.model_lexer.specs.Tokens.{symbol_of}
use Rattle.clocked.specs.Words.{new_word_of}
use Rattle.worked_models.specs.Texts as texts
use Rattle.clocked.proofs.Sound.{run_expands}
use Rattle.worked_models.proofs.texts.ticks_wait.Goals as goal

pub returns-clause-one : goal.returns-clause-one
unfolding word_of symbol_of new_word_of
returns-clause-one c = run_expands texts.one_tick texts.one_tick_expanded refl

pub returns-clause-lines : goal.returns-clause-lines
unfolding word_of symbol_of new_word_of
returns-clause-lines c = run_expands texts.ticks_on_lines texts.ticks_on_lines_expanded refl

pub returns-clause-most : goal.returns-clause-most
unfolding word_of symbol_of new_word_of
returns-clause-most c = (_, run_expands texts.most_edges _ refl)
