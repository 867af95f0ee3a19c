use Rattle.std.proofs.Common.{false, sym, subst}
use Rattle.kernel_view.specs.SimModel.Residual.{settle, put}
use Rattle.kernel_view.specs.SimModel.Configuration.{arena, with_residual}
use Rattle.kernel_view.specs.SimModel.Statements.{settled_in}
use Rattle.kernel_view.specs.SimModel.Storing.{chosen}
use Rattle.kernel_view.specs.KernelState.Kernel.{StandsFor}
use Rattle.exec_data.proofs.blocks.choose.Goals as goal

pub returns-then-yes-clause-steps : goal.returns-then-yes-clause-steps
returns-then-yes-clause-steps c d i h there =
    subst (λ y. StandsFor c.enter.new.k (with_residual (settled_in d c.args.p i.residual) c.args.p (put (settle (arena d) i.residual) (chosen (settled_in d c.args.p i.residual) y c.args.b c.args.other))))
    (sym c.if-yes.true) (c.enter.ensures.steps d i h there)

pub returns-in-Some-clause-steps : goal.returns-in-Some-clause-steps
returns-in-Some-clause-steps c d i h there =
    subst (λ y. StandsFor c.enter-in-Some.new.k (with_residual (settled_in d c.args.p i.residual) c.args.p (put (settle (arena d) i.residual) (chosen (settled_in d c.args.p i.residual) y c.args.b c.args.other))))
    (sym c.if-yes.false)
    (subst (λ o. StandsFor c.enter-in-Some.new.k (with_residual (settled_in d c.args.p i.residual) c.args.p (put (settle (arena d) i.residual) (chosen (settled_in d c.args.p i.residual) false c.args.b o))))
    (sym c.in-Some.is) (c.enter-in-Some.ensures.steps d i h there))

pub returns-in-None-clause-steps : goal.returns-in-None-clause-steps
returns-in-None-clause-steps c d i h there =
    subst (λ y. StandsFor c.pass.new.k (with_residual (settled_in d c.args.p i.residual) c.args.p (put (settle (arena d) i.residual) (chosen (settled_in d c.args.p i.residual) y c.args.b c.args.other))))
    (sym c.if-yes.false)
    (subst (λ o. StandsFor c.pass.new.k (with_residual (settled_in d c.args.p i.residual) c.args.p (put (settle (arena d) i.residual) (chosen (settled_in d c.args.p i.residual) false c.args.b o))))
    (sym c.in-None.is) (c.pass.ensures.steps d i h there))
