use Rattle.std.proofs.Common.{sym, subst}
use Rattle.kernel_view.specs.SimModel.Residual.{settle}
use Rattle.kernel_view.specs.SimModel.Configuration.{arena}
use Rattle.kernel_view.specs.SimModel.Storing.{passes, set_name}
use Rattle.kernel_view.specs.SimModel.Statements.{settled_in}
use Rattle.kernel_view.specs.KernelState.Kernel.{StandsFor}
use Rattle.kernel_view.specs.Standings.{next_here}
use Rattle.exec_data.proofs.storing.store_named.Goals as goal

pub returns-in-Local-clause-steps : goal.returns-in-Local-clause-steps
returns-in-Local-clause-steps c d i h there =
    subst (λ n. StandsFor c.store_local.new.k (set_name (passes (settled_in d c.args.p i.residual) c.args.p (settle (arena d) i.residual)) c.args.p (next_here d c.args.p i) n c.args.v))
    (sym c.in-Local.is) (c.store_local.ensures.steps d i h there)

pub returns-in-Declared-clause-steps : goal.returns-in-Declared-clause-steps
returns-in-Declared-clause-steps c d i h there =
    subst (λ n. StandsFor c.store_declared.new.k (set_name (passes (settled_in d c.args.p i.residual) c.args.p (settle (arena d) i.residual)) c.args.p (next_here d c.args.p i) n c.args.v))
    (sym c.in-Declared.is) (c.store_declared.ensures.steps d i h there)
