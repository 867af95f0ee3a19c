use Rattle.std.proofs.Common.{◌≡◌, length, map, take, vec_capacity}
use Rattle.kernel_events.specs.FlatDesign.declared.design.FifoPart.{FifoPart}
use Rattle.kernel_events.specs.FifoSync.Fifos.{nothing_in}
use Rattle.kernel_channels.proofs.fifos.first_fifos.Given as goal

abbrev pub invariant-loop-part : goal.invariant-loop-part
invariant-loop-part l = (l.fifos.items ≡ map (λ (p : FifoPart). nothing_in p.size) (take l.part-index l.parts)) × (vec_capacity l.fifos ≡ length l.parts)
