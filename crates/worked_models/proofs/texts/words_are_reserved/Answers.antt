use Rattle.std.proofs.Common.{◌≡◌, Some, None}
use Rattle.model_lexer.specs.ModelTree.Vocabulary.{word_of}
use Rattle.model_lexer.specs.Tokens.{symbol_of}
use Rattle.clocked.specs.Words.{new_word_of}
use Rattle.worked_models.specs.Texts as texts
use Rattle.clocked.proofs.Complete.{expands_run}
use Rattle.worked_models.proofs.texts.words_are_reserved.Goals as goal

pub returns-clause-put_in : goal.returns-clause-put_in
unfolding word_of symbol_of new_word_of
returns-clause-put_in c = λ out h. let no : None ≡ Some out = expands_run texts.a_word_that_is_put_in out h in cc

pub returns-clause-unit : goal.returns-clause-unit
unfolding word_of symbol_of new_word_of
returns-clause-unit c = λ out h. let no : None ≡ Some out = expands_run texts.new_word_as_a_unit out h in cc

pub returns-clause-thread : goal.returns-clause-thread
unfolding word_of symbol_of new_word_of
returns-clause-thread c = λ out h. let no : None ≡ Some out = expands_run texts.new_word_as_a_thread out h in cc

pub returns-clause-channel : goal.returns-clause-channel
unfolding word_of symbol_of new_word_of
returns-clause-channel c = λ out h. let no : None ≡ Some out = expands_run texts.new_word_as_a_channel out h in cc

pub returns-clause-place : goal.returns-clause-place
unfolding word_of symbol_of new_word_of
returns-clause-place c = λ out h. let no : None ≡ Some out = expands_run texts.new_word_in_a_place out h in cc

pub returns-clause-reset : goal.returns-clause-reset
unfolding word_of symbol_of new_word_of
returns-clause-reset c = λ out h. let no : None ≡ Some out = expands_run texts.new_word_as_a_reset out h in cc

pub returns-clause-function : goal.returns-clause-function
unfolding word_of symbol_of new_word_of
returns-clause-function c = λ out h. let no : None ≡ Some out = expands_run texts.tick_in_a_function out h in cc

pub returns-clause-name : goal.returns-clause-name
unfolding word_of symbol_of new_word_of
returns-clause-name c = λ out h. let no : None ≡ Some out = expands_run texts.new_word_as_a_name out h in cc

pub returns-clause-member : goal.returns-clause-member
unfolding word_of symbol_of new_word_of
returns-clause-member c = λ out h. let no : None ≡ Some out = expands_run texts.new_word_behind_a_dot out h in cc
