use Rattle.model_tree.specs.Vocabulary.{word_of}
use Rattle.model_tree.proofs.vocabulary.word_of.Goals as goal

pub returns : goal.returns
unfolding word_of
returns c = c.spelled.ensures
