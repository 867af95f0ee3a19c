use Rattle.std.proofs.Common.{Ok, sym, ap, subst}
use Rattle.flat_design.specs.Sound.{ChannelFits}
use Rattle.kernel_view.specs.SimModel.Residual.{settle}
use Rattle.kernel_view.specs.SimModel.Configuration.{arena}
use Rattle.kernel_view.specs.SimModel.Channels.{write_channel}
use Rattle.kernel_view.specs.SimModel.Statements.{settled_in}
use Rattle.kernel_view.specs.KernelState.Kernel.{whole_design}
use Rattle.kernel_view.specs.KernelState.Stopping.{FollowsBut, NoFault}
use Rattle.exec_data.specs.Written.{write_takes}
use Rattle.exec_data.proofs.writes.write_channel.Goals as goal

pub returns-in-Ok-put_in_fifo-clause-does : goal.returns-in-Ok-put_in_fifo-clause-does
returns-in-Ok-put_in_fifo-clause-does c = λ fits d i h there.
    subst (λ ch. FollowsBut NoFault c.put_in_fifo.new.k (Ok tt) d (write_channel (settled_in d c.args.p i.residual) c.args.p (settle (arena d) i.residual) c.args.v ch)) (sym c.in-Fifo.is)
    (c.in-Ok-put_in_fifo.ensures.steps (subst (ChannelFits (whole_design c.args.k.now)) c.in-Fifo.is fits).3 d i h there)

pub returns-in-Err-drive-clause-memory : goal.returns-in-Err-drive-clause-memory
returns-in-Err-drive-clause-memory c = λ refused. ap write_takes c.in-Resolved.is

pub returns-in-Err-put_in_fifo-clause-memory : goal.returns-in-Err-put_in_fifo-clause-memory
returns-in-Err-put_in_fifo-clause-memory c = λ refused. ap write_takes c.in-Fifo.is
