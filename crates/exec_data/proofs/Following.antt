-- What a statement does where a part of it was evaluated.
use Rattle.std.proofs.Common.{◌≡◌, ℕ, Result, Ok, Err, refl, sym, ◌∙◌, subst}
use Rattle.flat_design.specs.declared.faults.RunFault.{RunFault}
use Rattle.kernel_view.specs.SimModel.Values.{on_ok}
use Rattle.kernel_view.specs.SimModel.Residual.{Residual, settle}
use Rattle.kernel_view.specs.SimModel.Configuration.{Config, Instance, arena}
use Rattle.kernel_view.specs.SimModel.Reading.{Here, here}
use Rattle.kernel_view.specs.SimModel.Statements.{settled_in}
use Rattle.kernel_view.specs.KernelState.Moves.{Follows, Does}
use Rattle.kernel_view.specs.KernelState.declared.kernel.Kernel.{Kernel}
use Rattle.kernel_view.specs.Standings.{Everywhere}

-- the part gives this answer wherever the statement stands, and the rest f goes on with its value
module _ {A : Type 0} (k : Kernel) (p : ℕ) (answer : Result A RunFault) (part : Here → Result A RunFault) (gives : Everywhere k p (λ h. answer ≡ part h))
    (f : Config → ℕ → Instance → Residual → A → Result Config RunFault) where
  -- it has a value
  pub evaluated : (l : Kernel) (done : Result Unit RunFault) (a : A) → answer ≡ Ok a → Does k l done p (λ c q i r. f c q i r a) → Does k l done p (λ c q i r. on_ok (part (here c q i r)) (f c q i r))
  evaluated l done a is does c i h there =
      subst (λ o. Follows l done c (on_ok o (f (settled_in c p i.residual) p (record i { residual = settle (arena c) i.residual }) (settle (arena c) i.residual))))
      (sym is ∙ gives c i h there) (does c i h there)

  -- it is at fault
  pub at_fault : (e : RunFault) → answer ≡ Err e → Does k k (Err e) p (λ c q i r. on_ok (part (here c q i r)) (f c q i r))
  at_fault e is c i h there =
      subst (λ o. Follows k (Err e) c (on_ok o (f (settled_in c p i.residual) p (record i { residual = settle (arena c) i.residual }) (settle (arena c) i.residual))))
      (sym is ∙ gives c i h there) (refl, h)
