use Rattle.std.proofs.Common.{◌≡◌, length, map, take, vec_capacity}
use Rattle.kernel_events.specs.FlatDesign.declared.design.SemaphorePart.{SemaphorePart}
use Rattle.kernel_channels.proofs.board.first_semaphores.Given as goal

abbrev pub invariant-loop-part : goal.invariant-loop-part
invariant-loop-part l = (l.semaphores.items ≡ map (λ (p : SemaphorePart). p.start) (take l.part-index l.parts)) × (vec_capacity l.semaphores ≡ length l.parts)
