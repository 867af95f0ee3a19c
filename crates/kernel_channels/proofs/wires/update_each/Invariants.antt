use Rattle.std.proofs.Common.{◌≡◌, drop, map}
use Rattle.kernel_events.specs.FlatDesign.declared.design.ResolvedPart.{ResolvedPart}
use Rattle.kernel_events.specs.SignalChannel.Drivers.{resettled}
use Rattle.kernel_channels.specs.UpdateMarks.{wire_change, items_after, marks_after, events_after}
use Rattle.kernel_channels.proofs.wires.update_each.Given as goal

abbrev pub invariant-loop-n : goal.invariant-loop-n
invariant-loop-n l = record {
  left : items_after resettled (drop l.n-index l.numbers) l.resolved ≡ items_after resettled l.numbers l.fn.resolved;
  marked : marks_after resettled wire_change (drop l.n-index l.numbers) l.resolved l.changed ≡ marks_after resettled wire_change l.numbers l.fn.resolved l.fn.changed;
  announced : events_after resettled wire_change (drop l.n-index l.numbers) (map (λ (p : ResolvedPart). p.events) l.parts) l.resolved l.events
      ≡ events_after resettled wire_change l.numbers (map (λ (p : ResolvedPart). p.events) l.parts) l.fn.resolved l.fn.events;
}
