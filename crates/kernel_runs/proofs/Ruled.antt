-- A step that asks a rule of choices.
use Rattle.std.proofs.Common.{◌≡◌, ℕ, Bool, true, false, not, Option, Some, None, refl, sym, ap, ◌∙◌, subst, true≢false}
use Rattle.std.specs.Prelude.{IsSomeAnd, if◌then◌else◌}
use Rattle.std.specs.FinSet as set
use Rattle.kernel_phases.specs.ReadySet.Ready.{in_order}
use Rattle.kernel_phases.specs.SimModel.Configuration.{Config}
use Rattle.kernel_phases.specs.SimModel.Waits.{holds}
use Rattle.kernel_phases.specs.SimModel.Steps.{Outcome, step, takes}
use Rattle.kernel_phases.specs.SimModel.Runs.{Chooser, picked, held_then, missing}
use Rattle.kernel_phases.specs.Own.{ChoosesItself}
use Rattle.kernel_phases.specs.KernelState.Kernel.{StandsFor}
use Rattle.kernel_phases.specs.KernelState.declared.kernel.Kernel.{Kernel}
use Rattle.kernel_phases.proofs.Chosen.{in_any_order, alike}
use Rattle.kernel_phases.proofs.Sure.{sure}
use Rattle.kernel_runs.specs.Made.{AskedAs, Asks, NoDoubles, taken_as}
use Rattle.kernel_runs.specs.declared.answers.Made.{Made}
use Rattle.kernel_runs.specs.declared.answers.Made.TheVariants as made
use Rattle.kernel_runs.proofs.Choices.{taking_has_one}

abbrev pub AskedRule : Chooser → Chooser → Config → Made → Outcome → Type 0
AskedRule = AskedAs picked (λ held _. held_then held)

abbrev pub AsksRule : Kernel → Chooser → Chooser → Made → Type 0
AsksRule old before after result = Asks picked (λ held _. held_then held) old before after result step

module _ (c : Config) (once : NoDoubles c) (held : Chooser) where
  shown : picked held (in_order c.processes.runnable) ≡ picked held c.processes.runnable
  shown = sym (in_any_order held c.processes.runnable once)

  was_picked : (p : ℕ) (o : Option ℕ) → made.Took p ≡ taken_as c o → o ≡ Some p
  was_picked p None is = cc
  was_picked p (Some q) is = by (holds c.processes.runnable q) is
    where
      by : (b : Bool) → made.Took p ≡ (if b then made.Took q else made.NotReady) → Some q ≡ Some p
      by true e = cc
      by false e = cc

  was_missing : (o : Option ℕ) → made.NotReady ≡ taken_as c o → missing c.processes.runnable o ≡ true
  was_missing None is = refl
  was_missing (Some q) is = by (holds c.processes.runnable q) is
    where
      by : (b : Bool) → made.NotReady ≡ (if b then made.Took q else made.NotReady) → not b ≡ true
      by true e = cc
      by false e = refl

  pub rule_picked : (p : ℕ) → made.Took p ≡ taken_as c (picked held (in_order c.processes.runnable)) → picked held c.processes.runnable ≡ Some p
  rule_picked p is = was_picked p (picked held c.processes.runnable) (is ∙ ap (taken_as c) shown)

  pub rule_missed : made.NotReady ≡ taken_as c (picked held (in_order c.processes.runnable)) → missing c.processes.runnable (picked held c.processes.runnable) ≡ true
  rule_missed is = was_missing (picked held c.processes.runnable) (is ∙ ap (taken_as c) shown)

  -- a rule that chooses itself picks one of the runnable ones
  module _ (k : Kernel) (h : StandsFor k c) where
    found : (o : Option ℕ) → IsSomeAnd o (λ p. set.contains k.schedule.ready.members p ≡ true) → missing c.processes.runnable o ≡ true → ⊥
    found None member missed = member
    found (Some p) member missed = true≢false (sym missed ∙ ap not (sym (h.processes.ready p) ∙ member))

    pub only_lists_miss : step c ≡ takes → missing c.processes.runnable (picked held c.processes.runnable) ≡ true → ChoosesItself held → ⊥
    only_lists_miss taking missed own =
        let one = taking_has_one c taking in
        found (picked held c.processes.runnable)
        (subst (λ o. IsSomeAnd o (λ p. set.contains k.schedule.ready.members p ≡ true)) (sym (alike held k.schedule.ready.members c.processes.runnable (λ q. h.processes.ready q) once))
        (sure held k.schedule.ready.members one.0 own (h.processes.ready one.0 ∙ one.1))) missed
