use Rattle.std.proofs.Common.{◌≡◌, ◌≤◌, ◌<◌, ◌+◌, ◌-◌, false, cond, [], length, drop}
use Rattle.kernel_phases.specs.KernelState.Kernel.{IsSound}
use Rattle.kernel_runs.proofs.Several.{SoFar}
use Rattle.flat_design.specs.declared.faults.RunFault.{RunFault}
use Rattle.kernel_runs.specs.declared.answers.Made.TheVariants as became
use Rattle.kernel_runs.specs.Made.{whole_of}
use Rattle.kernel_runs.proofs.stepping.make_some.Given as goal

abbrev pub invariant-stepping : goal.invariant-stepping
invariant-stepping g l = record {
  so_far : SoFar g.C.Chooser.picks g.C.Chooser.later l.going l.initial.k l.k (drop l.initial.place l.script) (drop l.place l.script) l.initial.chooser l.chooser l.many (whole_of l.brief l.said);
  few : l.many < l.most;
  sound : IsSound l.k;
  within : l.place ≤ length l.script;
  none : l.events.items ≡ [];
  made : l.k.made ≤ l.initial.k.made + l.many + cond l.going 0 1;
  refused : l.going ≡ false → whole_of l.brief l.said ≡ became.NoMemory → l.k.made ≤ l.initial.k.made + l.many;
  faulted : (f : RunFault) → l.going ≡ false → whole_of l.brief l.said ≡ became.Fault f → l.k.made ≤ l.initial.k.made + l.many;
}

abbrev pub decreases-stepping : goal.decreases-stepping
decreases-stepping g l = cond l.going (l.most - l.many) 0
