use Rattle.std.proofs.Common.{◌≡◌, drop}
use Rattle.clocked.specs.Words.{new_spelled}
use Rattle.clocked.proofs.words.spelled.Given as goal

-- what the words that are left give is what all of them give
abbrev pub invariant-loop-word : goal.invariant-loop-word
invariant-loop-word l = new_spelled (drop l.word-index l.words) l.bytes ≡ new_spelled l.words l.bytes
