-- Which steps ask a chooser: a taking does, and no other.
use Rattle.std.proofs.Common.{◌≡◌, ◌||◌, ℕ, Bool, true, false, List, [], ◌∷◌, Option, Result, Ok, Err, refl, ap, ◌∙◌, eq-eqb}
use Rattle.std.specs.Prelude.{if◌then◌else◌}
use Rattle.flat_design.specs.declared.faults.RunFault.{RunFault}
use Rattle.kernel_phases.specs.SimModel.Configuration.{Config}
use Rattle.kernel_phases.specs.SimModel.Waits.{holds}
use Rattle.kernel_phases.specs.SimModel.Statements.{statement_step}
use Rattle.kernel_phases.specs.SimModel.Steps.{Outcome, takes, ended, as_outcome, carry_out, next_command, evaluate, step_in, step}
use Rattle.kernel_phases.specs.SimModel.declared.plain.Command.{Command}
use Rattle.kernel_phases.specs.SimModel.declared.plain.Phase.{Phase}
use Rattle.kernel_phases.specs.SimModel.declared.plain.Phase.TheVariants as phase
use Rattle.kernel_phases.specs.KernelState.Kernel.{StandsFor}
use Rattle.kernel_phases.specs.KernelState.declared.kernel.Kernel.{Kernel}
use Rattle.kernel_runs.specs.Made.{AskedAs}
use Rattle.kernel_runs.specs.declared.answers.Made.{Made}

module _ {C : Type 0} (picks : C → List ℕ → Option ℕ) (later : C → List ℕ → C) (held : C) (m : Made) (c : Config) where
  pub not_asked : (r : Result Config RunFault) → AskedAs picks later held held c m (as_outcome r)
  not_asked (Ok d) = refl
  not_asked (Err f) = refl

  pub command_asks : (ks : List Command) → AskedAs picks later held held c m (next_command c ks)
  command_asks [] = refl
  command_asks (k ∷ ks) = not_asked (carry_out (record c { script = ks }) k)

-- the step of a kernel that was not stopped is that of its phase
module _ (k : Kernel) (c : Config) (h : StandsFor k c) where
  pub step_of_phase : (ph : Phase) → k.cycle.stopped ≡ false → k.cycle.phase ≡ ph → step c ≡ step_in c ph
  step_of_phase ph going is =
      ap (λ b. if b then ended else step_in c c.cycle.phase) (ap (λ x. x.stopped) h.cycle ∙ going)
      ∙ ap (step_in c) (ap (λ x. x.phase) h.cycle ∙ is)

  pub step_of_none : k.cycle.stopped ≡ true → step c ≡ ended
  step_of_none over = ap (λ b. if b then ended else step_in c c.cycle.phase) (ap (λ x. x.stopped) h.cycle ∙ over)

-- ---- where a step takes a process, one is runnable

going_on : (b : Bool) (o : Outcome) → (if b then ended else o) ≡ takes → o ≡ takes
going_on true o is = cc
going_on false o is = is

no_taking : (r : Result Config RunFault) → as_outcome r ≡ takes → ⊥
no_taking (Ok d) is = cc
no_taking (Err f) is = cc

command_takes_none : (c : Config) (ks : List Command) → next_command c ks ≡ takes → ⊥
command_takes_none c [] is = cc
command_takes_none c (k ∷ ks) is = no_taking (carry_out (record c { script = ks }) k) is

IsRunnable : List ℕ → Type 0
IsRunnable xs = (r : ℕ) × (holds xs r ≡ true)

evaluate_runs : (c : Config) (stack runnable : List ℕ) → evaluate c stack runnable ≡ takes → IsRunnable runnable
unfolding IsRunnable
evaluate_runs c (p ∷ stack) runnable is = absurd (no_taking (statement_step c p) is)
evaluate_runs c [] (q ∷ runnable) is = (q, ap (λ b. b || holds runnable q) (eq-eqb q q refl))
evaluate_runs c [] [] is = cc

phase_runs : (c : Config) (ph : Phase) → step_in c ph ≡ takes → IsRunnable c.processes.runnable
phase_runs c phase.Idle is = absurd (command_takes_none c c.script is)
phase_runs c phase.Start is = cc
phase_runs c phase.Evaluate is = evaluate_runs c c.processes.stack c.processes.runnable is
phase_runs c phase.Notify is = cc
phase_runs c phase.Timed is = cc

pub taking_has_one : (c : Config) → step c ≡ takes → (r : ℕ) × (holds c.processes.runnable r ≡ true)
unfolding IsRunnable
taking_has_one c is = phase_runs c c.cycle.phase (going_on c.cycle.stopped (step_in c c.cycle.phase) is)
