use Rattle.std.proofs.Common.{sym, subst}
use Rattle.kernel_view.specs.SimModel.Residual.{settle, put}
use Rattle.kernel_view.specs.SimModel.Configuration.{arena, with_residual}
use Rattle.kernel_view.specs.SimModel.Statements.{settled_in}
use Rattle.kernel_view.specs.SimModel.Storing.{looped}
use Rattle.kernel_view.specs.KernelState.Kernel.{StandsFor}
use Rattle.exec_data.proofs.blocks.go_round.Goals as goal

pub returns-then-yes-clause-steps : goal.returns-then-yes-clause-steps
returns-then-yes-clause-steps c d i h there =
    subst (λ y. StandsFor c.repeat.new.k (with_residual (settled_in d c.args.p i.residual) c.args.p (put (settle (arena d) i.residual) (looped (settled_in d c.args.p i.residual) y c.args.s c.args.b))))
    (sym c.if-yes.true) (c.repeat.ensures.steps d i h there)

pub returns-else-yes-clause-steps : goal.returns-else-yes-clause-steps
returns-else-yes-clause-steps c d i h there =
    subst (λ y. StandsFor c.pass.new.k (with_residual (settled_in d c.args.p i.residual) c.args.p (put (settle (arena d) i.residual) (looped (settled_in d c.args.p i.residual) y c.args.s c.args.b))))
    (sym c.if-yes.false) (c.pass.ensures.steps d i h there)
