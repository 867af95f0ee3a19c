use Rattle.std.proofs.Common.{◌≡◌, ◌++◌, drop}
use Rattle.laws_runs.specs.SimModel.Trace.{changed_lines}
use Rattle.vcd_trace.proofs.points.push_changes.Given as goal

abbrev pub invariant-loop-number : goal.invariant-loop-number
invariant-loop-number l =
    l.text.items ++ changed_lines l.number (drop l.number l.old) (drop l.number l.values) ≡ l.fn.text.items ++ changed_lines 0 l.old l.values
