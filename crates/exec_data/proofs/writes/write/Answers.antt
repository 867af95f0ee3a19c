use Rattle.std.proofs.Common.{Err, sym, ◌∙◌, subst}
use Rattle.flat_design.specs.Code.{term_of, channel_term}
use Rattle.kernel_view.specs.SimModel.Residual.{settle}
use Rattle.kernel_view.specs.SimModel.Configuration.{arena}
use Rattle.kernel_view.specs.SimModel.Statements.{settled_in}
use Rattle.kernel_view.specs.SimModel.Channels.{write_channel}
use Rattle.kernel_view.specs.KernelState.Kernel.{whole_design}
use Rattle.kernel_view.specs.KernelState.Stopping.{FollowsBut, NoFault}
use Rattle.kernel_view.specs.KernelState.declared.stops.StatementStop.TheVariants as stop
use Rattle.kernel_view.specs.Standings.{next_here}
use Rattle.exec_data.specs.Written.{to_write}
use Rattle.kernel_view.proofs.Stopped.{evaluated, at_fault}
use Rattle.exec_data.proofs.Fitting.{takes_here, write_fits, write_is}
use Rattle.exec_data.proofs.writes.write.Goals as goal

pub returns-in-Ok-clause-does : goal.returns-in-Ok-clause-does
returns-in-Ok-clause-does c = λ d i h there.
    subst (FollowsBut NoFault c.write_channel.new.k c.write_channel.result d)
    (sym (write_is (next_here d c.args.p i) (channel_term c.args.to.now) c.args.t (term_of c.args.e.now) (settled_in d c.args.p i.residual) c.args.p (settle (arena d) i.residual)))
    (evaluated NoFault c.args.k.now c.args.p c.what_is_written.result (λ y. to_write y (channel_term c.args.to.now) c.args.t (term_of c.args.e.now)) c.what_is_written.ensures (λ b q j r x. write_channel b q r x.value x.channel)
    c.write_channel.new.k c.write_channel.result c.in-Ok.x c.in-Ok.is
    (λ b j stands at. c.write_channel.ensures.does
    (write_fits (next_here b c.args.p j) (channel_term c.args.to.now) c.args.t (term_of c.args.e.now) (whole_design c.args.k.now) c.requires.names stands.design c.in-Ok.x (sym (c.what_is_written.ensures b j stands at) ∙ c.in-Ok.is))
    b j stands at) d i h there)

pub returns-in-Err-clause-does : goal.returns-in-Err-clause-does
returns-in-Err-clause-does c = λ d i h there.
    subst (FollowsBut NoFault c.args.k.now (Err (stop.Fault c.in-Err.fault)) d)
    (sym (write_is (next_here d c.args.p i) (channel_term c.args.to.now) c.args.t (term_of c.args.e.now) (settled_in d c.args.p i.residual) c.args.p (settle (arena d) i.residual)))
    (at_fault NoFault c.args.k.now c.args.p c.what_is_written.result (λ y. to_write y (channel_term c.args.to.now) c.args.t (term_of c.args.e.now)) c.what_is_written.ensures (λ b q j r x. write_channel b q r x.value x.channel)
    c.in-Err.fault c.in-Err.is d i h there)

pub returns-in-Ok-clause-memory : goal.returns-in-Ok-clause-memory
returns-in-Ok-clause-memory c = λ refused.
    takes_here c.args.k.now c.args.p (channel_term c.args.to.now) c.args.t (term_of c.args.e.now) c.what_is_written.result c.what_is_written.ensures c.in-Ok.x c.in-Ok.is (c.write_channel.ensures.memory refused)
