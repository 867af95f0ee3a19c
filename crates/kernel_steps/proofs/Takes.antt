-- What a step may be refused, by what comes next.
use Rattle.std.proofs.Common.{◌≡◌, ◌≢◌, ℕ, Bool, true, false, not, Some, Result, Ok, Err, refl, ap, ◌∙◌}
use Rattle.flat_design.specs.Code.{arena_of, statement_at}
use Rattle.flat_design.specs.declared.faults.RunFault.{RunFault}
use Rattle.exec_channels.specs.ModelTree.declared.items.ProcessKind.{ProcessKind}
use Rattle.exec_channels.specs.ModelTree.declared.items.ProcessKind.TheVariants as process
use Rattle.exec_channels.specs.SimModel.Residual as residual
use Rattle.exec_channels.specs.SimModel.Configuration.{Config, Instance, instance_at, arena}
use Rattle.exec_channels.specs.SimModel.Control.{is_thread}
use Rattle.exec_channels.specs.KernelState.Kernel.{StandsFor}
use Rattle.exec_channels.specs.KernelState.declared.stops.StatementStop.{StatementStop}
use Rattle.exec_channels.specs.KernelState.declared.stops.StatementStop.TheVariants as stop
use Rattle.exec_channels.specs.KernelState.declared.kernel.Kernel.{Kernel}
use Rattle.kernel_steps.specs.Shown.{ComesNext}
use Rattle.kernel_steps.specs.Taking.{takes_memory_if, next_takes, StepTakes, IsNoThread}
use Rattle.kernel_steps.specs.StepAnswers.{plain_answer, taking_answer}
use Rattle.kernel_steps.specs.declared.answers.StepAnswer.{StepAnswer}
use Rattle.kernel_steps.specs.declared.answers.StepAnswer.TheVariants as answer

-- a statement that takes none is never refused any
pub plain_takes_none : (a : StepAnswer) (done : Result Unit RunFault) → a ≡ plain_answer done → a ≢ answer.NoMemory
plain_takes_none a (Ok u) is refused = cc
plain_takes_none a (Err f) is refused = cc

-- one that reaches descendants, or is not refused any
pub all_takes : (a : StepAnswer) (done : Result Unit StatementStop) (all : Bool) → a ≡ taking_answer done → (all ≡ false → done ≢ Err stop.NoMemory) → a ≡ answer.NoMemory → all ≡ true
all_takes a done true is alone refused = refl
all_takes a (Ok u) false is alone refused = cc
all_takes a (Err (stop.Fault f)) false is alone refused = cc
all_takes a (Err stop.NoMemory) false is alone refused = absurd (alone refl refl)

no_thread : (kind : ProcessKind) → (kind ≡ process.Thread → ⊥) → is_thread kind ≡ false
no_thread process.Thread other = absurd (other refl)
no_thread process.Method other = refl

-- a thread that ends is not refused any
pub no_thread_refused : (k : Kernel) (p : ℕ) → ((c : Config) (i : Instance) → StandsFor k c → instance_at c p ≡ Some i → i.kind ≡ process.Thread → ⊥) → IsNoThread k p
no_thread_refused k p other c i h there = no_thread i.kind (other c i h there)

module _ (k : Kernel) (p : ℕ) where
  pub statement_takes : (s : ℕ) → ComesNext k p (residual.statement s) → takes_memory_if (statement_at (arena_of k.program.now.code) s) ≡ true → StepTakes k p
  statement_takes s comes takes c i h there =
      ap (next_takes (arena c) i.kind) (comes c i h there) ∙ ap (λ d. takes_memory_if (statement_at (arena_of d.code) s)) h.design ∙ takes

  pub ended_takes : ComesNext k p residual.done → IsNoThread k p → StepTakes k p
  ended_takes comes other c i h there = ap (next_takes (arena c) i.kind) (comes c i h there) ∙ ap not (other c i h there)

  pub nothing_takes : ComesNext k p residual.nothing → IsNoThread k p → StepTakes k p
  nothing_takes comes other c i h there = ap (next_takes (arena c) i.kind) (comes c i h there) ∙ ap not (other c i h there)
