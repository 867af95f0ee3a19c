-- A taking follows what is picked.
use Rattle.std.proofs.Common.{◌≡◌, ℕ, Bool, true, false, Option, Some, None, refl, sym, ap, ◌∙◌, subst}
use Rattle.std.specs.FinSet as set
use Rattle.kernel_phases.specs.SimModel.Configuration.{Config, instance_at}
use Rattle.kernel_phases.specs.SimModel.Steps.{taking, taken_if, instance_taken}
use Rattle.kernel_phases.specs.KernelState.Kernel.{StandsFor}
use Rattle.kernel_phases.specs.KernelState.Moves.{Moves}
use Rattle.kernel_phases.specs.KernelState.declared.kernel.Kernel.{Kernel}
use Rattle.kernel_runs.specs.Takings.{taking_of, FollowsTaking, Takes}

module _ (old : Kernel) (o : Option ℕ) where
  as_picked : (c : Config) (new : Kernel) (answer p : Option ℕ) → o ≡ p → FollowsTaking old new answer p (taking_of c p) → FollowsTaking old new answer o (taking_of c o)
  as_picked c new answer p e follows = subst (λ x. FollowsTaking old new answer x (taking_of c x)) (sym e) follows

  runs : (c : Config) → StandsFor old c → (p : ℕ) (b : Bool) → set.contains old.schedule.ready.members p ≡ b → taking c p ≡ taken_if c p b
  runs c h p b e = ap (taken_if c p) (sym (h.processes.ready p) ∙ e)

  pub none_picked : o ≡ None → Takes old old o None
  none_picked e c h = as_picked c old None None e refl

  pub not_runnable : (p : ℕ) (b : Bool) → o ≡ Some p → b ≡ set.contains old.schedule.ready.members p → b ≡ false → Takes old old o None
  not_runnable p b e has gone c h = as_picked c old None (Some p) e (subst (FollowsTaking old old None (Some p)) (sym (runs c h p false (sym has ∙ gone))) refl)

  pub is_taken : (new : Kernel) (p : ℕ) (b : Bool) → o ≡ Some p → b ≡ set.contains old.schedule.ready.members p → b ≡ true → Moves old new (λ c. instance_taken c p (instance_at c p)) → Takes old new o (Some p)
  is_taken new p b e has there moves c h = as_picked c new (Some p) (Some p) e (subst (FollowsTaking old new (Some p) (Some p)) (sym (runs c h p true (sym has ∙ there))) (refl, moves c h))
