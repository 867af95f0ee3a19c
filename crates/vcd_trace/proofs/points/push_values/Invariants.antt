use Rattle.std.proofs.Common.{◌≡◌, ◌++◌, drop}
use Rattle.laws_runs.specs.SimModel.Trace.{value_lines}
use Rattle.vcd_trace.proofs.points.push_values.Given as goal

abbrev pub invariant-loop-number : goal.invariant-loop-number
invariant-loop-number l = l.text.items ++ value_lines l.number (drop l.number l.values) ≡ l.fn.text.items ++ value_lines 0 l.values
