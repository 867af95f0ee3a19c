use Rattle.model_tree.specs.Vocabulary.{later_word_of}
use Rattle.model_tree.proofs.vocabulary.later_word_of.Goals as goal

pub returns : goal.returns
unfolding later_word_of
returns c = c.spelled.ensures
