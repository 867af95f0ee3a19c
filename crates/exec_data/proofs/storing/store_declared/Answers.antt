use Rattle.std.proofs.Common.{subst}
use Rattle.kernel_view.specs.SimModel.Residual.{settle}
use Rattle.kernel_view.specs.SimModel.Configuration.{arena}
use Rattle.kernel_view.specs.SimModel.Storing.{passes, set_denoted}
use Rattle.kernel_view.specs.SimModel.Statements.{settled_in}
use Rattle.kernel_view.specs.KernelState.Kernel.{StandsFor}
use Rattle.exec_data.proofs.storing.store_declared.Goals as goal

pub returns-clause-steps : goal.returns-clause-steps
returns-clause-steps c d i h there =
    subst (λ y. StandsFor c.store_denoted.new.k (set_denoted (passes (settled_in d c.args.p i.residual) c.args.p (settle (arena d) i.residual)) y c.args.v))
    (c.denoted_at-d.ensures d i h there) (c.store_denoted.ensures.steps d i h there)
