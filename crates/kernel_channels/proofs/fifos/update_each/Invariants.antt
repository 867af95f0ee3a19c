use Rattle.std.proofs.Common.{◌≡◌, drop, map}
use Rattle.kernel_events.specs.FlatDesign.declared.design.FifoPart.{FifoPart}
use Rattle.kernel_events.specs.FifoSync.Fifos.{after_update}
use Rattle.kernel_channels.specs.UpdateMarks.{fifo_change, items_after, events_after}
use Rattle.kernel_channels.proofs.fifos.update_each.Given as goal

abbrev pub invariant-loop-n : goal.invariant-loop-n
invariant-loop-n l = record {
  left : items_after after_update (drop l.n-index l.numbers) l.fifos ≡ items_after after_update l.numbers l.fn.fifos;
  announced : events_after after_update fifo_change (drop l.n-index l.numbers) (map (λ (p : FifoPart). p.events) l.parts) l.fifos l.events
      ≡ events_after after_update fifo_change l.numbers (map (λ (p : FifoPart). p.events) l.parts) l.fn.fifos l.fn.events;
}
