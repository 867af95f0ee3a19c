use Rattle.std.proofs.Common.{length, ◌-◌}
use Rattle.kernel_phases.proofs.Initialized.{Initializes}
use Rattle.kernel_phases.proofs.initial.make_all_runnable.Given as goal

abbrev pub invariant-loop-p : goal.invariant-loop-p
invariant-loop-p l = Initializes l.p l.initial.k l.k

abbrev pub decreases-loop-p : goal.decreases-loop-p
decreases-loop-p l = length l.initial.k.design.processes - l.p
