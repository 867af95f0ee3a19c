use Rattle.std.proofs.Common.{◌≡◌, drop}
use Rattle.model_tree.specs.Vocabulary.{spelled}
use Rattle.model_tree.proofs.vocabulary.spelled.Given as goal

-- what the words that are left give is what all of them give
abbrev pub invariant-loop-word : goal.invariant-loop-word
invariant-loop-word l = spelled (drop l.word-index l.words) l.bytes ≡ spelled l.words l.bytes
