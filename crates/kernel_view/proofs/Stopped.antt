-- What a statement that may take memory does where a part of it was evaluated.
use Rattle.std.proofs.Common.{◌≡◌, ℕ, Result, Ok, Err, refl, sym, ◌∙◌, subst}
use Rattle.flat_design.specs.declared.faults.RunFault.{RunFault}
use Rattle.expr_eval.specs.SimModel.Values.{on_ok}
use Rattle.expr_eval.specs.SimModel.Residual.{Residual, settle}
use Rattle.expr_eval.specs.SimModel.Configuration.{Config, Instance, arena}
use Rattle.expr_eval.specs.SimModel.Reading.{Here, here}
use Rattle.expr_eval.specs.SimModel.Statements.{settled_in}
use Rattle.kernel_state.specs.Kernel.{StandsFor}
use Rattle.kernel_state.specs.Stopping.{FollowsBut, DoesBut}
use Rattle.kernel_state.specs.declared.kernel.Kernel.{Kernel}
use Rattle.kernel_state.specs.declared.stops.StatementStop.{StatementStop}
use Rattle.kernel_state.specs.declared.stops.StatementStop.TheVariants as stop
use Rattle.kernel_view.specs.Standings.{Everywhere}

-- the part gives this answer wherever the statement stands, and the rest f goes on with its value
module _ (IsBehind : RunFault → Type 0) {A : Type 0} (k : Kernel) (p : ℕ) (answer : Result A RunFault) (part : Here → Result A RunFault) (gives : Everywhere k p (λ h. answer ≡ part h))
    (f : Config → ℕ → Instance → Residual → A → Result Config RunFault) where
  -- it has a value
  pub evaluated : (l : Kernel) (done : Result Unit StatementStop) (a : A) → answer ≡ Ok a → DoesBut IsBehind k l done p (λ c q i r. f c q i r a) → DoesBut IsBehind k l done p (λ c q i r. on_ok (part (here c q i r)) (f c q i r))
  evaluated l done a is does c i h there =
      subst (λ o. FollowsBut IsBehind l done c (on_ok o (f (settled_in c p i.residual) p (record i { residual = settle (arena c) i.residual }) (settle (arena c) i.residual))))
      (sym is ∙ gives c i h there) (does c i h there)

  -- it is at fault
  pub at_fault : (e : RunFault) → answer ≡ Err e → DoesBut IsBehind k k (Err (stop.Fault e)) p (λ c q i r. on_ok (part (here c q i r)) (f c q i r))
  at_fault e is c i h there =
      subst (λ o. FollowsBut IsBehind k (Err (stop.Fault e)) c (on_ok o (f (settled_in c p i.residual) p (record i { residual = settle (arena c) i.residual }) (settle (arena c) i.residual))))
      (sym is ∙ gives c i h there) (refl, h)

-- memory is refused where there is no fault
pub refused : (IsBehind : RunFault → Type 0) (l : Kernel) (c d : Config) (r : Result Config RunFault) → r ≡ Ok d → StandsFor l c → FollowsBut IsBehind l (Err stop.NoMemory) c r
refused IsBehind l c d r is stands = subst (FollowsBut IsBehind l (Err stop.NoMemory) c) (sym is) stands
