-- A kernel that stands for a configuration before initialization has processes that have not begun.
use Rattle.std.proofs.Common.{◌≡◌, ◌<◌, ℕ, true, false, List, length, slice_get, Option, Some, None, option_map, refl, sym, ap, ◌∙◌, subst, arith, ⊎_elim}
use Rattle.std.specs.Prelude.{unwrap_or}
use Rattle.std.specs.FinMap as map_of
use Rattle.std.proofs.lemmas.Option.{slice_get-map, slice_get_cases}
use Rattle.kernel_phases.specs.InstanceTable.declared.instances.Instance.{Instance as Entry}
use Rattle.flat_design.specs.declared.design.ProcessPart.{ProcessPart}
use Rattle.laws_runs.specs.SimModel.Configuration.{Config, Processes, instance_at, first_instance}
use Rattle.laws_runs.specs.SimModel.declared.plain.Phase.TheVariants as phase
use Rattle.laws_runs.proofs.RunStart.{first_processes}
use Rattle.laws_runs.proofs.StepsFit.{FitsPhase, Good}
use Rattle.kernel_phases.specs.KernelProcesses.InstanceViews.{shown_at, seen, bare, as_instance}
use Rattle.kernel_phases.specs.KernelProcesses.declared.parts.Process.{Process}
use Rattle.kernel_phases.specs.KernelProcesses.Moved.{is_suspended}
use Rattle.kernel_phases.specs.KernelState.Kernel.{StandsFor}
use Rattle.kernel_phases.specs.KernelState.declared.kernel.Kept.{Kept}
use Rattle.kernel_phases.specs.KernelState.declared.kernel.Kernel.{Kernel}
use Rattle.kernel_phases.specs.Fresh.{IsFresh}
use Rattle.laws_reached.proofs.Standing.{told-live, lives-there, empty-is-empty}

-- before the start all processes are as they were at first
pub fresh-processes : (c : Config) → Good c → c.cycle.phase ≡ phase.Start → c.processes ≡ first_processes c.design
fresh-processes c good now = (subst (λ ph. FitsPhase ph c.cycle.begun c) now good.1).1

there_is : {A : Type 0} (xs : List A) (n : ℕ) → n < length xs → (x : A) × (slice_get xs n ≡ Some x)
there_is xs n below = ⊎_elim (λ c. (c.0, c.2)) (λ c. absurd (omega (arith, c.0))) (slice_get_cases xs n).1

module _ (k : Kernel) (c : Config) (h : StandsFor k c) (first : c.processes ≡ first_processes c.design) where
  module _ (p : ℕ) (below : p < length k.design.processes) where
    part : (x : ProcessPart) × (slice_get c.design.processes p ≡ Some x)
    part = there_is c.design.processes p (subst (λ d. p < length d.processes) (sym h.design) below)

    there : instance_at c p ≡ Some (first_instance c.design part.0)
    there = ap (λ (x : Processes). slice_get x.instances p) first ∙ slice_get-map (first_instance c.design) c.design.processes p ∙ ap (option_map (first_instance c.design)) part.1

    pub fresh_lives : map_of.contains_key k.schedule.table.live p ≡ true
    fresh_lives = lives-there k c h p (first_instance c.design part.0) there refl

    shown : shown_at k.schedule p ≡ Some (bare (first_instance c.design part.0))
    shown = (told-live k c h p (first_instance c.design part.0) there refl).shown

    goes_by : (o : Option (Entry (Process Kept))) → option_map (λ x. as_instance x (seen k.schedule p).wait) o ≡ Some (bare (first_instance c.design part.0)) → is_suspended o ≡ false
    goes_by None none = refl
    goes_by (Some x) same = ap (λ o. (unwrap_or o (bare (first_instance c.design part.0))).suspended) same

    pub fresh_goes : is_suspended (map_of.get k.schedule.table.live p) ≡ false
    fresh_goes = goes_by (map_of.get k.schedule.table.live p) shown

  pub fresh-kernel : IsFresh k
  fresh-kernel = record {
    lives = fresh_lives;
    goes = fresh_goes;
    nobody = empty-is-empty k c h (ap (λ (x : Processes). x.stack) first);
  }
