use Rattle.exec_data.specs.ModelTree.declared.statements.Control.TheVariants as order
use Rattle.exec_data.specs.SimModel.Residual.{settle}
use Rattle.exec_data.specs.SimModel.Configuration.{arena}
use Rattle.exec_data.specs.SimModel.Control.{control_call}
use Rattle.exec_data.specs.SimModel.Statements.{settled_in}
use Rattle.exec_data.specs.KernelState.Ways.{moved_on}
use Rattle.exec_data.proofs.KernelState.Ending.{follows_any}
use Rattle.exec_control.proofs.suspending.suspend.Goals as goal

pub returns-clause-does : goal.returns-clause-does
returns-clause-does c d i h there =
    let past = moved_on c.args.way (settled_in d c.args.p i.residual) c.args.p (settle (arena d) i.residual) in
    follows_any c.suspend_if.new.k past d (control_call past c.args.q order.Suspend) (c.suspend_if.ensures.follows past (c.move_on.ensures.steps d i h there))
