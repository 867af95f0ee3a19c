use Rattle.std.proofs.Common.{subst}
use Rattle.kernel_view.specs.SimModel.Residual.{settle}
use Rattle.kernel_view.specs.SimModel.Configuration.{arena}
use Rattle.kernel_view.specs.SimModel.Storing.{passes, set_name}
use Rattle.kernel_view.specs.SimModel.Statements.{settled_in}
use Rattle.kernel_view.specs.KernelState.Kernel.{StandsFor}
use Rattle.kernel_view.specs.Standings.{next_here}
use Rattle.exec_data.proofs.storing.store.Goals as goal

pub returns-clause-steps : goal.returns-clause-steps
returns-clause-steps c d i h there =
    subst (λ y. StandsFor c.store_named.new.k (set_name (passes (settled_in d c.args.p i.residual) c.args.p (settle (arena d) i.residual)) c.args.p (next_here d c.args.p i) c.args.target.name y))
    c.cut_to.ensures (c.store_named.ensures.steps d i h there)
