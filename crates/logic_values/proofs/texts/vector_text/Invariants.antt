use Rattle.std.proofs.Common.{◌≡◌, drop, map, reverse}
use Rattle.logic_values.specs.Digits.{digits}
use Rattle.logic_values.specs.ValueText.{letter_of}
use Rattle.logic_values.proofs.texts.vector_text.Given as goal

abbrev pub invariant-loop-place : goal.invariant-loop-place
invariant-loop-place l = l.bytes.items ≡ map letter_of (reverse (drop l.place (digits l.v)))
