use Rattle.std.proofs.Common.{◌≡◌, map, take, replicate}
use Rattle.kernel_state.specs.FlatDesign.declared.design.MemoryPart.{MemoryPart}
use Rattle.kernel_start.proofs.parts.first_bytes.Given as goal

abbrev pub invariant-loop-part : goal.invariant-loop-part
invariant-loop-part l = l.memories.items ≡ map (λ (p : MemoryPart). replicate p.size 0) (take l.part-index l.parts)
