use Rattle.std.proofs.Common.{List, map, replicate, ap, ◌∙◌}
use Rattle.kernel_state.specs.FlatDesign.declared.design.MemoryPart.{MemoryPart}
use Rattle.kernel_start.proofs.parts.first_parts.Goals as goal

pub returns-clause-memories : goal.returns-clause-memories
returns-clause-memories c = c.in_ok-memories.ensures ∙ ap (λ (ps : List MemoryPart). map (λ (p : MemoryPart). replicate p.size 0) ps) c.as_slice-3.ensures
