-- Whether a step is left.
use Rattle.std.proofs.Common.{◌≡◌, ℕ, false, List, [], ◌∷◌, Result, Ok, Err, sym, subst}
use Rattle.flat_design.specs.declared.faults.RunFault.{RunFault}
use Rattle.vcd_trace.specs.SimModel.Configuration.{Config}
use Rattle.vcd_trace.specs.SimModel.Steps.{as_outcome, step, next_command, carry_out, evaluate}
use Rattle.vcd_trace.specs.SimModel.Statements.{statement_step}
use Rattle.vcd_trace.specs.SimModel.declared.plain.Command.{Command}
use Rattle.vcd_trace.specs.SimModel.declared.plain.Phase.TheVariants as phase
use Rattle.kernel_start.specs.KernelState.Kernel.{StandsFor}
use Rattle.kernel_start.specs.KernelState.declared.kernel.Kernel.{Kernel}
use Rattle.kernel_runs.proofs.Scripted.{idle_step}
use Rattle.session.specs.Course.{IsOverAs, is_empty}

result_goes : (r : Result Config RunFault) → IsOverAs false (as_outcome r)
result_goes (Ok d) = tt
result_goes (Err f) = tt

next_is_over : (c : Config) (script : List Command) → IsOverAs (is_empty script) (next_command c script)
next_is_over c [] = tt
next_is_over c (k ∷ ks) = result_goes (carry_out (record c { script = ks }) k)

-- between commands a session is over where no command is left
pub idle_is_over : (k : Kernel) (c : Config) (script : List Command) → StandsFor k c → k.cycle.stopped ≡ false → k.cycle.phase ≡ phase.Idle → c.script ≡ script → IsOverAs (is_empty script) (step c)
idle_is_over k c script h going idle left =
    subst (λ o. IsOverAs (is_empty script) o) (sym (idle_step k c h going idle)) (subst (λ ks. IsOverAs (is_empty script) (next_command c ks)) (sym left) (next_is_over c script))

-- in evaluation there is always a step
pub evaluation_goes : (c : Config) (stack runnable : List ℕ) → IsOverAs false (evaluate c stack runnable)
evaluation_goes c (p ∷ stack) runnable = result_goes (statement_step c p)
evaluation_goes c [] (q ∷ runnable) = tt
evaluation_goes c [] [] = tt
