-- The call that ends next in the body of an instance.
use Rattle.std.specs.Prelude.{◌≡◌, ℕ, Option, Some, slice_get}
use Rattle.flat_design.specs.Code as code
use Rattle.flat_design.specs.Code.{Arena, Statement}
use Rattle.flat_design.specs.declared.names.NameUse.{NameUse}
use Rattle.flat_design.specs.declared.code.Store.{Store as Target}
use Rattle.exec_calls.specs.SimModel.Residual as residual
use Rattle.exec_calls.specs.SimModel.Residual.{Frame, settle, next_of}
use Rattle.exec_calls.specs.SimModel.Configuration.{Config, Instance, instance_at, arena}
use Rattle.exec_calls.specs.SimModel.Calls.{answer_of}
use Rattle.exec_calls.specs.KernelState.Kernel.{StandsFor}
use Rattle.exec_calls.specs.KernelState.declared.kernel.Kernel.{Kernel}
use Rattle.exec_transactions.specs.declared.endings.Ending.{Ending}

-- what is seen of a call that ends
abbrev pub ending_of : Arena → Frame → Ending
ending_of a x = record { via = x.via; answer = answer_of a x; first = slice_get x.locals 1; second = slice_get x.locals 2 }

-- whatever is said of the call that ends next in the body of instance p
abbrev pub AtEnd : Kernel → ℕ → (Config → Frame → Type 0) → Type 0
AtEnd k p P = (c : Config) (i : Instance) (x : Frame) → StandsFor k c → instance_at c p ≡ Some i → next_of (settle (arena c) i.residual) ≡ residual.leaves x → P c x

-- this is seen of it
abbrev pub Ends : Kernel → ℕ → Ending → Type 0
Ends k p e = AtEnd k p (λ c x. e ≡ ending_of (arena c) x)

-- a statement is a `b_transport` with this delay, or an `nb_transport` with this result, phase and delay
pub record IsBTransport (d : NameUse) (o : Option Statement) : Type 0 where
  pub socket : ℕ
  pub payload : NameUse
  pub is : o ≡ Some (code.b_transport socket payload d)

pub record IsNbTransport (target : Option Target) (phase d : NameUse) (o : Option Statement) : Type 0 where
  pub socket : ℕ
  pub payload : NameUse
  pub is : o ≡ Some (code.nb_transport target socket payload phase d)
