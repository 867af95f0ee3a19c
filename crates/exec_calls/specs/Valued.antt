-- The arguments of a call and the first ones of a new instance, evaluated.
use Rattle.std.specs.Prelude.{◌≡◌, ℕ, List, Result, Ok}
use Rattle.exec_data.specs.LogicValues.declared.kinds.Value.{Value}
use Rattle.flat_design.specs.Code.{ArgumentTerm, Term, body_at}
use Rattle.flat_design.specs.declared.code.Local.{Local}
use Rattle.flat_design.specs.declared.faults.RunFault.{RunFault}
use Rattle.exec_data.specs.SimModel.Values.{on_ok}
use Rattle.exec_data.specs.SimModel.Configuration.{arena}
use Rattle.exec_data.specs.SimModel.Calls.{argument_values, first_arguments, locals_in}
use Rattle.exec_data.specs.KernelView.Standings.{Everywhere}
use Rattle.exec_data.specs.KernelState.declared.kernel.Kernel.{Kernel}

-- this is the first fault of the arguments, where the next statement of instance p stands, whatever their parameters are
abbrev pub JudgesArguments : Kernel → ℕ → Result Unit RunFault → List ArgumentTerm → Type 0
JudgesArguments k p answer arguments = (ls : List Local) → Everywhere k p (λ h. answer ≡ on_ok (argument_values h ls 0 arguments) (λ vs. Ok tt))

-- these are the values of the arguments for these parameters there, if they have no fault
abbrev pub AreValues : Kernel → ℕ → List Value → List Local → List ArgumentTerm → Type 0
AreValues k p values locals arguments = Everywhere k p (λ h. (vs : List Value) → argument_values h locals 0 arguments ≡ Ok vs → values ≡ vs)

-- the same of the first arguments of a new instance, which are those of this code
abbrev pub JudgesFirst : Kernel → ℕ → Result Unit RunFault → List Term → Type 0
JudgesFirst k p answer arguments = (ls : List Local) → Everywhere k p (λ h. answer ≡ on_ok (first_arguments h ls 0 arguments) (λ vs. Ok tt))

abbrev pub AreFirst : Kernel → ℕ → List Value → ℕ → List Term → Type 0
AreFirst k p values f arguments = Everywhere k p (λ h. (vs : List Value) → first_arguments h (locals_in (body_at (arena h.config) f)) 0 arguments ≡ Ok vs → values ≡ vs)
