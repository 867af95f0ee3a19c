use Rattle.std.proofs.Common.{◌≡◌, ◌+◌, ◌≤◌, drop}
use Rattle.kernel_bodies.specs.Sought.{many_calls}
use Rattle.kernel_bodies.proofs.sought.many_calls.Given as goal

abbrev pub invariant-loop-saved : goal.invariant-loop-saved
invariant-loop-saved l = record {
  few : l.calls ≤ l.saved-index;
  same : l.calls + many_calls (drop l.saved-index l.frames) ≡ many_calls l.frames;
}
