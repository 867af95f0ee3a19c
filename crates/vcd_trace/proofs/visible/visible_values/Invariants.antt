use Rattle.std.proofs.Common.{◌≡◌, take, map}
use Rattle.flat_design.specs.declared.design.Visible.{Visible}
use Rattle.laws_runs.specs.SimModel.Configuration.{Config}
use Rattle.laws_runs.specs.SimModel.Phases.{visible_value}
use Rattle.kernel_state.specs.Kernel.{StandsFor}
use Rattle.vcd_trace.proofs.visible.visible_values.Given as goal

-- the values so far are those of the objects so far
abbrev pub invariant-loop-visible : goal.invariant-loop-visible
invariant-loop-visible l = (c : Config) → StandsFor l.k c → l.values.items ≡ map (λ (v : Visible). visible_value c v.id) (take l.visible-index l.visible-items)
