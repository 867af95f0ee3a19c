use Rattle.flat_design.specs.Code.{channel_term}
use Rattle.kernel_view.specs.SimModel.Reading.{here}
use Rattle.kernel_view.specs.SimModel.Channels.{nb_read_fifo, fifo_here}
use Rattle.exec_channels.proofs.Trying.{does_for, at_fault}
use Rattle.exec_channels.proofs.fifos.nb_read.Goals as goal

pub returns-in-Ok-clause-does : goal.returns-in-Ok-clause-does
returns-in-Ok-clause-does c = does_for c.args.k.now c.args.p (channel_term c.args.at.now) c.used_at.result c.used_at.ensures (λ ch d q i r. nb_read_fifo d q r (here d q i r) c.args.target c.args.to ch (fifo_here d ch)) c.nb_read_channel.new.k c.in-Ok.channel c.in-Ok.is c.nb_read_channel.ensures.steps

pub returns-in-Err-clause-does : goal.returns-in-Err-clause-does
returns-in-Err-clause-does c = at_fault c.args.k.now c.args.p (channel_term c.args.at.now) c.used_at.result c.used_at.ensures (λ ch d q i r. nb_read_fifo d q r (here d q i r) c.args.target c.args.to ch (fifo_here d ch)) c.in-Err.fault c.in-Err.is
