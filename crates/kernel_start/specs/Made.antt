-- The processes of a design before the first command.
use Rattle.std.specs.Prelude.{◌≡◌, ℕ, List, [], ◌∷◌, ◌++◌, map, false, Option, Some, None}
use Rattle.kernel_state.specs.FlatDesign.declared.design.Design.{Design}
use Rattle.kernel_state.specs.FlatDesign.declared.design.ProcessPart.{ProcessPart}
use Rattle.kernel_state.specs.SimModel.Configuration.{Cycle, Processes, first_instance}
use Rattle.kernel_state.specs.SimModel.declared.plain.Phase.TheVariants as phase
use Rattle.kernel_state.specs.KernelBodies.declared.program.Program.{Program}
use Rattle.kernel_state.specs.ProcessBodies.Bodies as bodies
use Rattle.kernel_state.specs.KernelProcesses.InstanceViews.{body_at as kept_at}
use Rattle.kernel_state.specs.KernelProcesses.Sound as schedules
use Rattle.kernel_state.specs.KernelProcesses.declared.parts.Schedule.{Schedule}
use Rattle.kernel_state.specs.Processes.{StandsForProcesses}
use Rattle.kernel_state.specs.Kernel.{Shows}
use Rattle.kernel_state.specs.declared.kernel.Kept.{Kept}

-- a sound schedule of sound bodies, of which none is due
pub record IsMade (program : Program) (s : Schedule Kept) : Type 0 where
  pub schedule : schedules.IsSound s
  pub bodies : (p : ℕ) (kept : Kept) → kept_at s p ≡ Some kept → bodies.IsSound program kept.body
  pub nobody_due : s.due.items ≡ []

abbrev pub with_process : Design → ProcessPart → Processes → Processes
with_process d part x = record x { instances = x.instances ++ first_instance d part ∷ [] }

-- a process of a design with this code is added
abbrev pub Adds : Program → ProcessPart → Schedule Kept → Schedule Kept → Type 0
Adds program part old new = (d : Design) (x : Processes) → d.code ≡ program.code → StandsForProcesses (Shows d program) old x → StandsForProcesses (Shows d program) new (with_process d part x)

-- all of them are, and nobody runs; a schedule does not know their parents
abbrev pub AddsAll : Program → List ProcessPart → Schedule Kept → Type 0
AddsAll program parts s = (d : Design) (parents : List (Option ℕ)) → d.code ≡ program.code → StandsForProcesses (Shows d program) s (record { runnable = []; stack = []; instances = map (first_instance d) parts; parents = parents })

-- no process of a design was spawned
abbrev pub no_parents : List ProcessPart → List (Option ℕ)
no_parents parts = map (λ (p : ProcessPart). None) parts

-- Idle at time 0, and no run has begun
abbrev pub first_cycle : Cycle
first_cycle = record { phase = phase.Idle; begun = false; now = 0; end = None; stop_asked = false; stopped = false }
