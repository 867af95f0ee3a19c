use Rattle.flat_design.specs.Code.{channel_term}
use Rattle.kernel_view.specs.SimModel.Storing.{passes}
use Rattle.kernel_view.specs.SimModel.Channels.{post_at, semaphore_of}
use Rattle.exec_channels.proofs.Trying.{does_for, at_fault}
use Rattle.exec_channels.proofs.semaphores.post.Goals as goal

pub returns-in-Ok-clause-does : goal.returns-in-Ok-clause-does
returns-in-Ok-clause-does c = does_for c.args.k.now c.args.p (channel_term c.args.at.now) c.used_at.result c.used_at.ensures (λ ch d q i r. post_at (passes d q r) ch (semaphore_of ch)) c.post_channel.new.k c.in-Ok.channel c.in-Ok.is c.post_channel.ensures.steps

pub returns-in-Err-clause-does : goal.returns-in-Err-clause-does
returns-in-Err-clause-does c = at_fault c.args.k.now c.args.p (channel_term c.args.at.now) c.used_at.result c.used_at.ensures (λ ch d q i r. post_at (passes d q r) ch (semaphore_of ch)) c.in-Err.fault c.in-Err.is
