use Rattle.std.proofs.Common.{◌≡◌, map, take}
use Rattle.kernel_state.specs.FlatDesign.declared.design.VariablePart.{VariablePart}
use Rattle.kernel_start.proofs.parts.first_values.Given as goal

abbrev pub invariant-loop-part : goal.invariant-loop-part
invariant-loop-part l = l.values.items ≡ map (λ (p : VariablePart). p.initial) (take l.part-index l.parts)
