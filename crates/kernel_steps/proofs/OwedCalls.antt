-- The call that a statement owes, by which call it is.
use Rattle.std.proofs.Common.{◌≡◌, ℕ, refl, ap}
use Rattle.std.specs.Prelude.{Ok}
use Rattle.flat_design.specs.Code as code
use Rattle.flat_design.specs.Code.{Statement}
use Rattle.exec_channels.specs.ModelTree.declared.statements.Control.{Control}
use Rattle.exec_channels.specs.SimModel.Configuration.{Config}
use Rattle.exec_channels.specs.SimModel.Control.{control_call, throw_call}
use Rattle.exec_channels.specs.SimModel.Statements.{owed_call}
use Rattle.kernel_steps.specs.Owing.{call_of}
use Rattle.kernel_steps.specs.declared.owing.OwedCall.{OwedCall}
use Rattle.kernel_steps.specs.declared.owing.OwedCall.TheVariants as owed

abbrev order_of : Control → OwedCall → Control
order_of k (owed.Control o) = o
order_of k (owed.Throw e) = k
order_of k owed.Nothing = k

abbrev name_of : ℕ → OwedCall → ℕ
name_of n (owed.Control o) = n
name_of n (owed.Throw e) = e
name_of n owed.Nothing = n

no-control : (o : Control) → owed.Nothing ≡ owed.Control o → ⊥
no-control o is = cc

no-throw : (e : ℕ) → owed.Nothing ≡ owed.Throw e → ⊥
no-throw e is = cc

pub control_is : (c : Config) (q : ℕ) (s : Statement) (o : Control) → call_of s ≡ owed.Control o → owed_call c q s ≡ control_call c q o
control_is c q (code.control k who all) o is = ap (λ x. control_call c q (order_of k x)) is
control_is c q (code.throw_it who e all) o is = absurd (let no : ⊥ = cc in no)
control_is c q other o is = absurd (no-control o is)

pub throw_is : (c : Config) (q : ℕ) (s : Statement) (name : ℕ) → call_of s ≡ owed.Throw name → owed_call c q s ≡ throw_call c q name
throw_is c q (code.control k who all) name is = absurd (let no : ⊥ = cc in no)
throw_is c q (code.throw_it who e all) name is = ap (λ x. throw_call c q (name_of e x)) is
throw_is c q other name is = absurd (no-throw name is)

pub nothing_is : (c : Config) (q : ℕ) (s : Statement) → call_of s ≡ owed.Nothing → owed_call c q s ≡ Ok c
nothing_is c q (code.control k who all) is = absurd (let no : ⊥ = cc in no)
nothing_is c q (code.throw_it who e all) is = absurd (let no : ⊥ = cc in no)
nothing_is c q other is = refl
