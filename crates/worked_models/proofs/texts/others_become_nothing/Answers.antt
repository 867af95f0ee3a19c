use Rattle.std.proofs.Common.{◌≡◌, Some, None}
use Rattle.model_lexer.specs.ModelTree.Vocabulary.{word_of}
use Rattle.model_lexer.specs.Tokens.{symbol_of}
use Rattle.clocked.specs.Words.{new_word_of}
use Rattle.worked_models.specs.Texts as texts
use Rattle.clocked.proofs.Complete.{expands_run}
use Rattle.worked_models.proofs.texts.others_become_nothing.Goals as goal

pub returns-clause-no_edge : goal.returns-clause-no_edge
unfolding word_of symbol_of new_word_of
returns-clause-no_edge c = λ out h. let no : None ≡ Some out = expands_run texts.no_edge out h in cc

pub returns-clause-too_many : goal.returns-clause-too_many
unfolding word_of symbol_of new_word_of
returns-clause-too_many c = λ out h. let no : None ≡ Some out = expands_run texts.too_many_edges out h in cc

pub returns-clause-outside : goal.returns-clause-outside
unfolding word_of symbol_of new_word_of
returns-clause-outside c = λ out h. let no : None ≡ Some out = expands_run texts.tick_in_a_thread out h in cc

pub returns-clause-nested : goal.returns-clause-nested
unfolding word_of symbol_of new_word_of
returns-clause-nested c = λ out h. let no : None ≡ Some out = expands_run texts.thread_in_a_thread out h in cc

pub returns-clause-unclosed : goal.returns-clause-unclosed
unfolding word_of symbol_of new_word_of
returns-clause-unclosed c = λ out h. let no : None ≡ Some out = expands_run texts.not_closed out h in cc

pub returns-clause-end : goal.returns-clause-end
unfolding word_of symbol_of new_word_of
returns-clause-end c = λ out h. let no : None ≡ Some out = expands_run texts.tick_without_its_end out h in cc

pub returns-clause-sum : goal.returns-clause-sum
unfolding word_of symbol_of new_word_of
returns-clause-sum c = λ out h. let no : None ≡ Some out = expands_run texts.tick_of_a_sum out h in cc

pub returns-clause-twice : goal.returns-clause-twice
unfolding word_of symbol_of new_word_of
returns-clause-twice c = λ out h. let no : None ≡ Some out = expands_run texts.two_resets_at_once out h in cc

pub returns-clause-order : goal.returns-clause-order
unfolding word_of symbol_of new_word_of
returns-clause-order c = λ out h. let no : None ≡ Some out = expands_run texts.resets_in_the_other_order out h in cc

pub returns-clause-events : goal.returns-clause-events
unfolding word_of symbol_of new_word_of
returns-clause-events c = λ out h. let no : None ≡ Some out = expands_run texts.two_events out h in cc

pub returns-clause-edge : goal.returns-clause-edge
unfolding word_of symbol_of new_word_of
returns-clause-edge c = λ out h. let no : None ≡ Some out = expands_run texts.no_edge_of_a_clock out h in cc

pub returns-clause-other_language : goal.returns-clause-other_language
unfolding word_of symbol_of new_word_of
returns-clause-other_language c = λ out h. let no : None ≡ Some out = expands_run texts.of_another_language out h in cc

pub returns-clause-long : goal.returns-clause-long
unfolding word_of symbol_of new_word_of
returns-clause-long c = λ out h. let no : None ≡ Some out = expands_run texts.too_long_name out h in cc
