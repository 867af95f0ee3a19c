use Rattle.std.proofs.Common.{true, subst}
use Rattle.exec_data.specs.SimModel.Residual.{begun}
use Rattle.exec_data.specs.SimModel.Configuration.{with_residual, arena}
use Rattle.exec_data.specs.KernelProcesses.Moved.{started_as}
use Rattle.exec_data.specs.KernelState.Kernel.{StandsFor}
use Rattle.exec_data.proofs.KernelState.Frames.{change-twice}
use Rattle.exec_control.proofs.instances.begin_body.Goals as goal

pub returns-clause-moves : goal.returns-clause-moves
returns-clause-moves c = λ d i h there.
    subst (λ is. StandsFor c.mark_begun.new.k (record d { processes = record d.processes { instances = is } })) (change-twice d.processes.instances c.args.p (λ j. record j { residual = begun (arena d) i.code i.arguments }) (started_as true))
    (c.mark_begun.ensures.moves (with_residual d c.args.p (begun (arena d) i.code i.arguments)) (c.restart_body.ensures.moves d i h there))
