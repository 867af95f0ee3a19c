use Rattle.std.proofs.Common.{◌≡◌, ◌+◌, take}
use Rattle.model_tree.specs.LogicValues.Digits.{digits}
use Rattle.model_lexer.specs.Meanings.{logic_digits}
use Rattle.model_lexer.proofs.meanings.logic_within.Given as goal

-- the vector is the digits read so far
abbrev pub invariant-loop-byte : goal.invariant-loop-byte
invariant-loop-byte l = record {
  so_far : digits l.vector ≡ logic_digits (take (l.byte-index + 1) l.bytes);
  width : l.vector.width ≡ l.byte-index + 1;
}
