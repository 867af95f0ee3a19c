-- The code of a kernel in a run, the number of its events, and its semaphores.
use Rattle.std.proofs.Common.{◌≡◌, ◌≤◌, ◌<◌, ◌+◌, ◌-◌, ◌^◌, ℕ, List, length, All, sym, ap, ◌∙◌, subst, arith}
use Rattle.std.proofs.lemmas.List.Elements.{All-weaker}
use Rattle.flat_design.specs.declared.design.SemaphorePart.{SemaphorePart}
use Rattle.flat_design.specs.declared.design.Design.{Design}
use Rattle.laws_runs.specs.SimModel.Configuration.{Config}
use Rattle.kernel_phases.specs.KernelState.Kernel.{StandsFor, whole_design}
use Rattle.kernel_phases.specs.KernelState.declared.kernel.Kernel.{Kernel}
use Rattle.laws_reached.specs.Reached.{IsReached}
use Rattle.laws_runs.specs.SimModel.Configuration.{Channels}
use Rattle.laws_runs.specs.EventCore.declared.notifications.Pending.{Pending}
use Rattle.laws_reached.proofs.Reaching.{design-is}
use Rattle.laws_reached.proofs.CountedRuns.{events-after, semaphores-after}

pub kernel-code : (k : Kernel) (c : Config) → StandsFor k c → (r : IsReached c) → k.program.now.code ≡ r.design.code
kernel-code k c h r = sym (ap (λ (d : Design). d.code) h.design) ∙ ap (λ (d : Design). d.code) (design-is c r)

-- the numbers of events and of semaphores

module _ (k : Kernel) (c : Config) (h : StandsFor k c) (r : IsReached c) where
  design_was : r.design ≡ whole_design k
  design_was = sym (design-is c r) ∙ h.design

  pub kernel-events : length k.events ≡ k.design.events
  kernel-events =
      ap (λ (ps : List Pending). length ps) (sym h.events) ∙ events-after r.design r.script r.steps r.choices c r.is_run ∙ ap (λ (d : Design). d.events) design_was

  pub kernel-semaphores : (most : ℕ) → All (λ (p : SemaphorePart). p.start ≤ most) k.design.semaphores → All (λ v. v ≤ most + r.steps) k.channels.semaphores
  kernel-semaphores most few =
      subst (λ (x : Channels). All (λ v. v ≤ most + r.steps) x.semaphores) h.channels
      (semaphores-after r.design r.script r.steps r.choices c r.is_run most (subst (λ (d : Design). All (λ (p : SemaphorePart). p.start ≤ most) d.semaphores) (sym design_was) few))

  pub kernel-room : All (λ (p : SemaphorePart). p.start < 2 ^ 31) k.design.semaphores → r.steps < 2 ^ 63 → All (λ v. v < 2 ^ 64 - 1) k.channels.semaphores
  kernel-room few steps =
      All-weaker (λ v. v ≤ 2 ^ 31 + r.steps) (λ v. v < 2 ^ 64 - 1) (λ v v_is. omega (arith, v_is, steps)) k.channels.semaphores
      (kernel-semaphores (2 ^ 31) (All-weaker (λ (p : SemaphorePart). p.start < 2 ^ 31) (λ (p : SemaphorePart). p.start ≤ 2 ^ 31) (λ p p_is. omega (arith, p_is)) k.design.semaphores few))
