use Rattle.std.proofs.Common.{◌≡◌, ◌++◌, drop, map, reverse}
use Rattle.laws_runs.specs.LogicValues.Digits.{digits}
use Rattle.laws_runs.specs.SimModel.Trace.{digit_letter}
use Rattle.vcd_trace.proofs.values.push_digits.Given as goal

abbrev pub invariant-loop-place : goal.invariant-loop-place
invariant-loop-place l = l.text.items ≡ l.fn.text.items ++ map digit_letter (reverse (drop l.place (digits l.vector)))
