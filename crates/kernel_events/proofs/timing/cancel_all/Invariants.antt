use Rattle.std.proofs.Common.{◌≡◌, drop, length}
use Rattle.kernel_events.specs.Layout.{nothing_at, AreBelow}
use Rattle.kernel_events.proofs.timing.cancel_all.Given as goal

abbrev pub invariant-loop-n : goal.invariant-loop-n
invariant-loop-n l = record {
  below : AreBelow (length l.events) (drop l.n-index l.numbers);
  left : nothing_at (drop l.n-index l.numbers) l.events ≡ nothing_at l.numbers l.initial.events;
}
