use Rattle.std.proofs.Common.{◌≡◌, drop, map}
use Rattle.kernel_events.specs.FlatDesign.declared.design.SignalPart.{SignalPart}
use Rattle.kernel_events.specs.SignalChannel.Signals.{settled, change_of}
use Rattle.kernel_channels.specs.UpdateMarks.{items_after, marks_after, events_after}
use Rattle.kernel_channels.proofs.signals.update_each.Given as goal

abbrev pub invariant-loop-n : goal.invariant-loop-n
invariant-loop-n l = record {
  left : items_after settled (drop l.n-index l.numbers) l.signals ≡ items_after settled l.numbers l.fn.signals;
  marked : marks_after settled change_of (drop l.n-index l.numbers) l.signals l.changed ≡ marks_after settled change_of l.numbers l.fn.signals l.fn.changed;
  announced : events_after settled change_of (drop l.n-index l.numbers) (map (λ (p : SignalPart). p.events) l.parts) l.signals l.events
      ≡ events_after settled change_of l.numbers (map (λ (p : SignalPart). p.events) l.parts) l.fn.signals l.fn.events;
}
