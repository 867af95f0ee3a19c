use Rattle.std.proofs.Common.{refl}
use Rattle.model_lexer.specs.ModelTree.Vocabulary.{word_of}
use Rattle.model_lexer.specs.Tokens.{symbol_of}
use Rattle.clocked.specs.Words.{new_word_of}
use Rattle.worked_models.specs.Texts as texts
use Rattle.clocked.proofs.Sound.{run_expands}
use Rattle.worked_models.proofs.texts.resets_are_tested.Goals as goal

pub returns-clause-at_an_edge : goal.returns-clause-at_an_edge
unfolding word_of symbol_of new_word_of
returns-clause-at_an_edge c = run_expands texts.at_an_edge texts.at_an_edge_expanded refl

pub returns-clause-at_once : goal.returns-clause-at_once
unfolding word_of symbol_of new_word_of
returns-clause-at_once c = run_expands texts.at_once texts.at_once_expanded refl

pub returns-clause-both : goal.returns-clause-both
unfolding word_of symbol_of new_word_of
returns-clause-both c = run_expands texts.both texts.both_expanded refl

pub returns-clause-longest : goal.returns-clause-longest
unfolding word_of symbol_of new_word_of
returns-clause-longest c = (_, run_expands texts.long_name _ refl)
