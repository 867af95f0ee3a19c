use Rattle.std.proofs.Common.{subst}
use Rattle.kernel_view.specs.SimModel.Storing.{stored_if}
use Rattle.kernel_view.specs.KernelState.Kernel.{StandsFor}
use Rattle.exec_channels.proofs.slots.tell.Goals as goal

pub returns-clause-moves : goal.returns-clause-moves
returns-clause-moves c = λ h x is d stands. subst (λ v. StandsFor c.put.new.k (stored_if d c.args.p h x v)) c.answer.ensures (c.put.ensures.moves h x is d stands)
