use Rattle.std.proofs.Common.{◌≡◌, ◌++◌}
use Rattle.laws_runs.specs.SimModel.Trace.{bit_letters}
use Rattle.vcd_trace.proofs.values.push_bits.Given as goal

abbrev pub invariant-loop-place : goal.invariant-loop-place
invariant-loop-place l = l.text.items ++ bit_letters l.place l.bits ≡ l.fn.text.items ++ bit_letters l.width l.bits
