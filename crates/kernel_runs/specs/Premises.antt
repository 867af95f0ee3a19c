-- What a step of a session asks of its kernel.
use Rattle.std.specs.Prelude.{◌≡◌, ◌<◌, ◌-◌, ◌^◌, ℕ, List, Option, All}
use Rattle.kernel_phases.specs.SimModel.declared.plain.Command.{Command}
use Rattle.kernel_phases.specs.SimModel.declared.plain.Phase.TheVariants as phase
use Rattle.kernel_phases.specs.KernelState.Moves.{IsOnTop}
use Rattle.kernel_phases.specs.KernelState.declared.kernel.Kernel.{Kernel}
use Rattle.kernel_phases.specs.Fresh.{IsFresh}
use Rattle.kernel_steps.specs.ExecControl.Thrown.{OthersHaveNoGoal}
use Rattle.kernel_steps.specs.ExecControl.Unwound.{ThrowsFreeNext}
use Rattle.kernel_steps.specs.Ready.{Ready}
use Rattle.kernel_runs.specs.Made.{Quietly}

-- In a run of a sound design all of it holds.
pub record MayStep (k : Kernel) : Type 0 where
  pub ready : Ready k
  pub throws : (p : ℕ) → IsOnTop k p → ThrowsFreeNext k p
  pub others : OthersHaveNoGoal k
  pub posts : All (λ v. v < 2 ^ 64 - 1) k.channels.semaphores
  pub fresh : k.cycle.phase ≡ phase.Start → IsFresh k

-- wherever fewer quiet steps than this lead, the next one may be made
abbrev pub MayGoOn : {C : Type 0} → (C → List ℕ → Option ℕ) → (C → List ℕ → C) → Kernel → List Command → C → ℕ → Type 0
MayGoOn {C} picks later k script held most = (n : ℕ) (there : Kernel) (left : List Command) (h : C) → Quietly picks later k script held n there left h → n < most → MayStep there
