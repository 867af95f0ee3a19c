use Rattle.std.proofs.Common.{◌≡◌, ◌++◌}
use Rattle.laws_runs.specs.SimModel.Trace.{id_of}
use Rattle.vcd_trace.proofs.ids.push_id.Given as goal

abbrev pub invariant-loop-left : goal.invariant-loop-left
invariant-loop-left l = l.text.items ++ id_of l.left ≡ l.fn.text.items ++ id_of l.number

abbrev pub decreases-loop-left : goal.decreases-loop-left
decreases-loop-left l = l.left
