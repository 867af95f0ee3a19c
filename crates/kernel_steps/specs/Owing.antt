-- What comes next where a statement owes its call.
use Rattle.std.specs.Prelude.{◌≡◌, ℕ}
use Rattle.flat_design.specs.Code.{Statement}
use Rattle.flat_design.specs.Facts.{Owed, no_order, order, exception, facts}
use Rattle.exec_channels.specs.SimModel.Residual as residual
use Rattle.exec_channels.specs.SimModel.Residual.{next_of}
use Rattle.exec_channels.specs.ProcessBodies.Bodies.{settled_in}
use Rattle.exec_channels.specs.KernelState.Moves.{KeptAt}
use Rattle.exec_channels.specs.KernelState.declared.kernel.Kernel.{Kernel}
use Rattle.kernel_steps.specs.declared.owing.OwedCall.{OwedCall}
use Rattle.kernel_steps.specs.declared.owing.OwedCall.TheVariants as owed

-- what comes next in the body of instance p is the call that statement s owes to instance q
abbrev pub Owes : Kernel → ℕ → ℕ → ℕ → Type 0
Owes k p s q = KeptAt k p (λ kept. next_of (settled_in k.program.now kept.body) ≡ residual.owes s q)

-- which call a statement owes; one that is no control call owes none
abbrev pub call_by : Owed → OwedCall
call_by no_order = owed.Nothing
call_by (order k) = owed.Control k
call_by (exception e) = owed.Throw e

abbrev pub call_of : Statement → OwedCall
call_of s = call_by (facts s).owed
