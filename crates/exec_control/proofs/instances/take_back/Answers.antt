use Rattle.std.proofs.Common.{false, ◌∙◌, subst}
use Rattle.exec_data.specs.SimModel.Residual.{skip}
use Rattle.exec_data.specs.SimModel.Configuration.{with_residual}
use Rattle.exec_data.specs.KernelProcesses.Moved.{started_as}
use Rattle.exec_data.specs.KernelState.Kernel.{StandsFor}
use Rattle.exec_data.proofs.KernelState.Frames.{change-twice}
use Rattle.exec_control.proofs.OneInstance.{changed_first}
use Rattle.exec_control.proofs.instances.take_back.Goals as goal

pub returns-clause-steps : goal.returns-clause-steps
returns-clause-steps c d i h there = changed_first c.mark_begun.new.k d c.args.p i (λ j. record j { residual = skip; started = false })
    (subst (λ is. StandsFor c.mark_begun.new.k (record d { processes = record d.processes { instances = is } })) (change-twice d.processes.instances c.args.p (λ j. record j { residual = skip }) (started_as false))
    (c.mark_begun.ensures.moves (with_residual d c.args.p skip) (c.clear_body.ensures.moves d h)))

pub returns-clause-stack : goal.returns-clause-stack
returns-clause-stack c = c.mark_begun.ensures.stack ∙ c.clear_body.ensures.stack
