-- What a print answers.
use Rattle.std.proofs.Common.{◌≡◌, ℕ, Bool, true, false, List, Option, Some, Result, Ok, Err, refl, sym, ap, ◌∙◌, subst, true≢false}
use Rattle.std.specs.Prelude.{option_map, is_some, ◌++◌, ◌∷◌, []}
use Rattle.exec_channels.specs.LogicValues.declared.kinds.Value.{Value}
use Rattle.flat_design.specs.Code as code
use Rattle.flat_design.specs.Code.{Term, statement_at, arena_of}
use Rattle.flat_design.specs.declared.faults.RunFault.{RunFault}
use Rattle.exec_channels.proofs.KernelProcesses.Wakes.{change-here}
use Rattle.exec_channels.specs.SimModel.Values.{on_ok}
use Rattle.exec_channels.specs.SimModel.Residual.{Residual, settle, put, skip}
use Rattle.exec_channels.specs.SimModel.Reading.{Here, val_if}
use Rattle.exec_channels.specs.SimModel.Configuration.{Config, Instance, arena, line, instance_at, with_residual, with_told}
use Rattle.exec_channels.specs.SimModel.Statements.{settled_in}
use Rattle.exec_channels.specs.SimModel.Storing.{passes, print_line, do_print}
use Rattle.exec_channels.specs.KernelProcesses.InstanceViews.{shown_at}
use Rattle.exec_channels.specs.KernelProcesses.InstanceViews.{body_at as kept_at}
use Rattle.exec_channels.specs.KernelState.Processes.{TellsBy, Tells}
use Rattle.exec_channels.specs.KernelState.Kernel.{Shows, StandsFor, whole_design}
use Rattle.exec_channels.specs.KernelState.Moves.{Lives}
use Rattle.exec_channels.specs.KernelState.declared.kernel.Kernel.{Kernel}
use Rattle.exec_channels.proofs.KernelState.Frames.{shown_where_lives}
use Rattle.exec_control.specs.ExecData.PrintAnswers.{FollowsPrint}
use Rattle.kernel_steps.specs.StepAnswers.{TellsAll}
use Rattle.kernel_steps.proofs.Silent.{KeepsIfOk}
use Rattle.kernel_steps.specs.declared.answers.StepAnswer.TheVariants as answer

-- it is the same time, and instance p is there with the same path, and has ended if it had
abbrev pub IsStillThere : Config → Config → ℕ → Instance → Type 0
IsStillThere c d p i = (d.cycle.now ≡ c.cycle.now) × ((j : Instance) × (instance_at d p ≡ Some j) × (j.path ≡ i.path) × (j.ended ≡ i.ended))

abbrev pub StaysIfOk : Config → ℕ → Instance → Result Config RunFault → Type 0
StaysIfOk c p i (Ok d) = IsStillThere c d p i
StaysIfOk c p i (Err f) = Unit {0}

at_residual : (c : Config) (p : ℕ) (i : Instance) (r : Residual) → instance_at c p ≡ Some i → instance_at (with_residual c p r) p ≡ Some (record i { residual = r })
at_residual c p i r there = change-here c.processes.instances p (λ j. record j { residual = r }) ∙ ap (option_map (λ (j : Instance). record j { residual = r })) there

pub print_stays : (c : Config) (p : ℕ) (i j : Instance) (h : Here) (text : List ℕ) (e : Option Term) → instance_at c p ≡ Some i
    → StaysIfOk c p i (do_print (settled_in c p i.residual) p j (settle (arena c) i.residual) h text e)
print_stays c p i j h text e there = by (val_if h e)
  where
    r : Residual
    r = settle (arena c) i.residual

    by : (x : Result (Option Value) RunFault) → StaysIfOk c p i (on_ok x (λ v. Ok (with_told (passes (settled_in c p i.residual) p r) (line (print_line (settled_in c p i.residual).cycle.now j.path text v)))))
    by (Ok v) = (refl, (record (record i { residual = r }) { residual = put r skip }, at_residual (settled_in c p i.residual) p (record i { residual = r }) (put r skip) (at_residual c p i r there), refl, refl))
    by (Err f) = tt

-- an instance that has not ended for the kernel has not ended
not_ended : (b : Bool) (k : Kernel) (p : ℕ) (i : Instance) → TellsBy (Shows (whole_design k) k.program.now) b (shown_at k.schedule p) (kept_at k.schedule p) i → is_some (shown_at k.schedule p) ≡ true → b ≡ false
not_ended false k p i tells is = refl
not_ended true k p i tells is = absurd (true≢false (sym is ∙ ap is_some tells.0))

pub lives_still : (k : Kernel) (c : Config) (p : ℕ) (i : Instance) → StandsFor k c → instance_at c p ≡ Some i → Lives k p → i.ended ≡ false
lives_still k c p i h there lives =
    not_ended i.ended k p i (subst (Tells (Shows (whole_design k) k.program.now) (shown_at k.schedule p) (kept_at k.schedule p)) there (h.processes.each p)) (shown_where_lives k p lives)

module _ (new : Kernel) (c : Config) (i : Instance) where
  pub printed_tells : (p s : ℕ) (v : Option Value) (text : List ℕ) (e : Option Term) → i.ended ≡ false → statement_at (arena c) s ≡ Some (code.print text e)
      → (r : Result Config RunFault) → KeepsIfOk c r → StaysIfOk c p i r → FollowsPrint new (Ok v) c i text r → TellsAll new (answer.Printed p s v) c i r
  printed_tells p s v text e alive there (Ok d) keeps stays prints = (
    prints.0,
    keeps,
    record {
      text = text;
      shown = e;
      teller = stays.1.0;
      prints = subst (λ x. statement_at (arena_of x.code) s ≡ Some (code.print text e)) (sym keeps.0) there;
      there = stays.1.1;
      lives = stays.1.3 ∙ alive;
      told = prints.1
          ∙ ap (λ now. c.trace.told ++ line (print_line now i.path text v) ∷ []) (sym stays.0)
          ∙ ap (λ path. c.trace.told ++ line (print_line d.cycle.now path text v) ∷ []) (sym stays.1.2);
    },
  )
  printed_tells p s v text e alive there (Err f) keeps stays prints = prints

  pub fault_tells : (f : RunFault) (text : List ℕ) (r : Result Config RunFault) → FollowsPrint new (Err f) c i text r → TellsAll new (answer.Fault f) c i r
  fault_tells f text (Ok d) prints = prints
  fault_tells f text (Err g) prints = prints
