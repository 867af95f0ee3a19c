use Rattle.std.proofs.Common.{sym, subst}
use Rattle.kernel_view.specs.KernelState.Kernel.{StandsFor}
use Rattle.exec_data.proofs.Asking.{driven_steps}
use Rattle.exec_data.proofs.updates.drive.Goals as goal

pub returns-in-Ok-clause-steps : goal.returns-in-Ok-clause-steps
returns-in-Ok-clause-steps c = driven_steps c.args.k.now c.drive.new.self c.args.n c.args.p c.args.v c.first_digit.result c.in-Ok.ensures.ok c.first_digit.ensures c.pass.new.k c.pass.ensures.steps

pub returns-in-Err-clause-stays : goal.returns-in-Err-clause-stays
returns-in-Err-clause-stays c = λ d h. subst (λ x. StandsFor (record c.args.k.now { channels = x }) d) (sym c.in-Err.ensures.err) h
