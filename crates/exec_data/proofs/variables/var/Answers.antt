use Rattle.std.proofs.Common.{Ok, subst}
use Rattle.kernel_view.specs.SimModel.Residual.{settle}
use Rattle.kernel_view.specs.SimModel.Configuration.{arena}
use Rattle.kernel_view.specs.SimModel.Reading.{val_if}
use Rattle.kernel_view.specs.SimModel.Storing.{passes, set_local, first_value}
use Rattle.kernel_view.specs.SimModel.Statements.{settled_in}
use Rattle.kernel_view.specs.KernelState.Kernel.{StandsFor}
use Rattle.exec_data.proofs.Following.{evaluated, at_fault}
use Rattle.exec_data.proofs.variables.var.Goals as goal

pub returns-in-Ok-clause-does : goal.returns-in-Ok-clause-does
returns-in-Ok-clause-does c = λ e gives.
    evaluated c.args.k.now c.args.p c.args.v (λ h. val_if h e) gives (λ d q i r x. Ok (set_local (passes d q r) q c.args.n (first_value c.args.t x))) c.store_local.new.k (Ok tt) c.in-Ok.x c.in-Ok.is
    (λ d i h there. subst (λ y. StandsFor c.store_local.new.k (set_local (passes (settled_in d c.args.p i.residual) c.args.p (settle (arena d) i.residual)) c.args.p c.args.n y))
    c.first_value.ensures (c.store_local.ensures.steps d i h there))

pub returns-in-Err-clause-does : goal.returns-in-Err-clause-does
returns-in-Err-clause-does c = λ e gives.
    at_fault c.args.k.now c.args.p c.args.v (λ h. val_if h e) gives (λ d q i r x. Ok (set_local (passes d q r) q c.args.n (first_value c.args.t x))) c.in-Err.fault c.in-Err.is
