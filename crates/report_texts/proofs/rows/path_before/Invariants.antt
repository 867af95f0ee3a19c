use Rattle.std.proofs.Common.{◌≡◌, ◌≤◌, ◌++◌, length, drop}
use Rattle.kernel_state.specs.SimModel.Configuration.{path_up}
use Rattle.report_texts.proofs.rows.path_before.Given as goal

abbrev pub invariant-above : goal.invariant-above
invariant-above l = (l.start ≤ length l.room) × (path_up l.number l.objects l.number ++ drop l.end l.fn.room ≡ path_up l.steps l.objects l.at ++ drop l.start l.room)

abbrev pub decreases-above : goal.decreases-above
decreases-above l = l.steps
