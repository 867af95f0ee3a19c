-- What a session begins with.
use Rattle.std.specs.Prelude.{◌≡◌, ◌<◌, ◌+◌, ◌-◌, ◌^◌, ℕ, List, [], ◌++◌, All, Some}
use Rattle.flat_design.specs.declared.design.SemaphorePart.{SemaphorePart}
use Rattle.vcd_trace.specs.SimModel.Configuration.{Config}
use Rattle.vcd_trace.specs.SimModel.Steps.{step, went, takes, taking}
use Rattle.vcd_trace.specs.SimModel.declared.plain.Command.{Command}
use Rattle.vcd_trace.specs.LawsRuns.AddedStanding.{added}
use Rattle.laws_reached.specs.Reached.{IsReached}
use Rattle.kernel_runs.specs.Made.{NoDoubles}
use Rattle.kernel_start.specs.KernelState.Kernel.{StandsFor}
use Rattle.kernel_start.specs.KernelState.declared.kernel.Kernel.{Kernel}

-- the script is still to be carried out, and nothing was told or seen
pub record IsFirst (c : Config) (script : List Command) : Type 0 where
  pub script_left : c.script ≡ script
  pub nothing_told : c.trace.told ≡ []
  pub nothing_seen : c.trace.snapshots ≡ []

-- the kernel stands for the first configuration of a run of a sound design; it has made nothing
pub record HasBegun (k : Kernel) (script : List Command) : Type 0 where
  pub first : Config
  pub stands : StandsFor k first
  pub is_first : IsFirst first script
  pub reached : IsReached first
  pub no_steps : reached.steps ≡ 0
  pub events : first.design.events < 2 ^ 32 - 1
  pub starts : All (λ (p : SemaphorePart). p.start < 2 ^ 31) first.design.semaphores
  pub made : k.made ≡ 0

-- one step more of a run of a sound design comes to d
pub record OneOn (c d : Config) (r : IsReached c) : Type 0 where
  pub next : IsReached d
  pub steps : next.steps ≡ r.steps + 1

-- how a run of a sound design goes on: each configuration that it comes to is that of such a run with one step more, of the same design, a
-- step adds to its snapshots where now moves, and in its runnable list nothing stands twice
pub record GoesOn : Type 0 where
  pub steps : (c d : Config) (r : IsReached c) → step c ≡ went d → OneOn c d r
  pub keeps : (c d : Config) → IsReached c → step c ≡ went d → d.design ≡ c.design
  pub takings : (c d : Config) (p : ℕ) (r : IsReached c) → step c ≡ takes → taking c p ≡ Some d → OneOn c d r
  pub takings_keep : (c d : Config) (p : ℕ) → IsReached c → step c ≡ takes → taking c p ≡ Some d → d.design ≡ c.design
  pub sees : (c d : Config) → step c ≡ went d → d.trace.snapshots ≡ c.trace.snapshots ++ added c d
  pub takings_see : (c d : Config) (p : ℕ) → taking c p ≡ Some d → d.trace.snapshots ≡ c.trace.snapshots
  pub once : (c : Config) → IsReached c → NoDoubles c
