use Rattle.std.proofs.Common.{Ok, subst}
use Rattle.kernel_view.specs.SimModel.Residual.{settle, put}
use Rattle.kernel_view.specs.SimModel.Configuration.{arena, with_residual}
use Rattle.kernel_view.specs.SimModel.Values.{truth}
use Rattle.kernel_view.specs.SimModel.Reading.{val}
use Rattle.kernel_view.specs.SimModel.Statements.{settled_in}
use Rattle.kernel_view.specs.SimModel.Storing.{chosen}
use Rattle.kernel_view.specs.KernelState.Kernel.{StandsFor}
use Rattle.exec_data.proofs.Following.{evaluated, at_fault}
use Rattle.exec_data.proofs.blocks.if_then.Goals as goal

pub returns-in-Ok-clause-does : goal.returns-in-Ok-clause-does
returns-in-Ok-clause-does c = λ e gives.
    evaluated c.args.k.now c.args.p c.args.v (λ h. val h e) gives (λ d q i r x. Ok (with_residual d q (put r (chosen d (truth x) c.args.b c.args.other)))) c.choose.new.k (Ok tt) c.in-Ok.x c.in-Ok.is
    (λ d i h there. subst (λ y. StandsFor c.choose.new.k (with_residual (settled_in d c.args.p i.residual) c.args.p (put (settle (arena d) i.residual) (chosen (settled_in d c.args.p i.residual) y c.args.b c.args.other))))
    c.truth.ensures (c.choose.ensures.steps d i h there))

pub returns-in-Err-clause-does : goal.returns-in-Err-clause-does
returns-in-Err-clause-does c = λ e gives.
    at_fault c.args.k.now c.args.p c.args.v (λ h. val h e) gives (λ d q i r x. Ok (with_residual d q (put r (chosen d (truth x) c.args.b c.args.other)))) c.in-Err.fault c.in-Err.is
