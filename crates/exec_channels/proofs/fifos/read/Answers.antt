use Rattle.std.proofs.Common.{Some, None, Ok, Err, option_map}
use Rattle.kernel_view.specs.FifoSync.Fifos.{readable}
use Rattle.flat_design.specs.Code.{channel_term}
use Rattle.kernel_view.specs.SimModel.Reading.{here}
use Rattle.kernel_view.specs.SimModel.Channels.{element, fifo_of, read_fifo, fifo_here}
use Rattle.kernel_view.specs.KernelState.declared.stops.StatementStop.TheVariants as stop
use Rattle.exec_channels.proofs.Trying.{stops_for, stops_at, found_here}
use Rattle.exec_channels.proofs.fifos.read.Goals as goal

pub returns-in-Ok-read_channel-clause-does : goal.returns-in-Ok-read_channel-clause-does
returns-in-Ok-read_channel-clause-does c = stops_for c.args.k.now c.args.p (channel_term c.args.at.now) c.used_at.result c.used_at.ensures (λ ch d q i r. read_fifo d q r (here d q i r) c.args.target ch (fifo_here d ch)) c.read_channel.new.k (Ok tt) c.in-Ok.channel c.in-Ok.is c.in-Ok-read_channel.ensures.steps

pub returns-in-Err-read_channel-clause-does : goal.returns-in-Err-read_channel-clause-does
returns-in-Err-read_channel-clause-does c = stops_for c.args.k.now c.args.p (channel_term c.args.at.now) c.used_at.result c.used_at.ensures (λ ch d q i r. read_fifo d q r (here d q i r) c.args.target ch (fifo_here d ch)) c.read_channel.new.k (Err stop.NoMemory) c.in-Ok.channel c.in-Ok.is (λ d i h there. c.in-Err-read_channel.ensures.stays d h)

pub returns-in-Err-clause-does : goal.returns-in-Err-clause-does
returns-in-Err-clause-does c = stops_at c.args.k.now c.args.p (channel_term c.args.at.now) c.used_at.result c.used_at.ensures (λ ch d q i r. read_fifo d q r (here d q i r) c.args.target ch (fifo_here d ch)) c.in-Err.fault c.in-Err.is

pub returns-in-Err-read_channel-clause-blocked : goal.returns-in-Err-read_channel-clause-blocked
returns-in-Err-read_channel-clause-blocked c = λ _. found_here c.args.k.now c.args.p (channel_term c.args.at.now) c.used_at.result c.used_at.ensures c.in-Ok.channel c.in-Ok.is (λ y x. option_map readable (element y.fifos (fifo_of x))) (Some None) c.in-Err-read_channel.ensures.blocked
