use Rattle.std.proofs.Common.{Some, Ok, Err, false, not, option_map}
use Rattle.kernel_view.specs.FifoSync.Locks.{is_used_up}
use Rattle.flat_design.specs.Code.{channel_term}
use Rattle.kernel_view.specs.SimModel.Channels.{element, sem_wait_at, semaphore_of}
use Rattle.kernel_view.specs.KernelState.declared.stops.StatementStop.TheVariants as stop
use Rattle.exec_channels.proofs.Trying.{stops_for, stops_at, found_here}
use Rattle.exec_channels.proofs.semaphores.sem_wait.Goals as goal

pub returns-in-Ok-wait_channel-clause-does : goal.returns-in-Ok-wait_channel-clause-does
returns-in-Ok-wait_channel-clause-does c = stops_for c.args.k.now c.args.p (channel_term c.args.at.now) c.used_at.result c.used_at.ensures (λ ch d q i r. sem_wait_at d q r ch (semaphore_of ch)) c.wait_channel.new.k (Ok tt) c.in-Ok.channel c.in-Ok.is c.in-Ok-wait_channel.ensures.steps

pub returns-in-Err-wait_channel-clause-does : goal.returns-in-Err-wait_channel-clause-does
returns-in-Err-wait_channel-clause-does c = stops_for c.args.k.now c.args.p (channel_term c.args.at.now) c.used_at.result c.used_at.ensures (λ ch d q i r. sem_wait_at d q r ch (semaphore_of ch)) c.wait_channel.new.k (Err stop.NoMemory) c.in-Ok.channel c.in-Ok.is (λ d i h there. c.in-Err-wait_channel.ensures.stays d h)

pub returns-in-Err-clause-does : goal.returns-in-Err-clause-does
returns-in-Err-clause-does c = stops_at c.args.k.now c.args.p (channel_term c.args.at.now) c.used_at.result c.used_at.ensures (λ ch d q i r. sem_wait_at d q r ch (semaphore_of ch)) c.in-Err.fault c.in-Err.is

pub returns-in-Err-wait_channel-clause-blocked : goal.returns-in-Err-wait_channel-clause-blocked
returns-in-Err-wait_channel-clause-blocked c = λ _. found_here c.args.k.now c.args.p (channel_term c.args.at.now) c.used_at.result c.used_at.ensures c.in-Ok.channel c.in-Ok.is (λ y x. option_map (λ v. not (is_used_up v)) (element y.semaphores (semaphore_of x))) (Some false) c.in-Err-wait_channel.ensures.blocked
