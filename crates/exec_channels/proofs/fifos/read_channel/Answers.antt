use Rattle.std.proofs.Common.{Some, sym, ap, ◌∙◌}
use Rattle.kernel_view.specs.Standings.{next_here}
use Rattle.exec_channels.proofs.TriedFifos.{read_steps, blocked_steps, refused_moves, no_fifo_steps}
use Rattle.exec_channels.proofs.fifos.read_channel.Goals as goal

pub returns-in-Some-Some-clause-steps : goal.returns-in-Some-Some-clause-steps
returns-in-Some-Some-clause-steps c = read_steps c.args.k.now c.try_read.new.board c.args.p c.args.channel c.try_read.ensures.left c.args.target c.in-Some-Some.v
    (sym (c.in-Some-Some.is ∙ ap Some c.in-Some-Some.field-0-is) ∙ c.try_read.ensures.value) c.past.new.k c.past.ensures.steps c.put.new.k
    (λ d i h there. c.put.ensures.moves (next_here d c.args.p i) c.args.target (c.slot_at-slot.ensures d i h there))

pub returns-in-Ok-clause-steps : goal.returns-in-Ok-clause-steps
returns-in-Ok-clause-steps c = blocked_steps c.args.k.now c.try_read.new.board c.args.p c.args.channel c.try_read.ensures.left c.args.target
    (sym (c.in-Some-None.is ∙ ap Some c.in-Some-None.field-0-is) ∙ c.try_read.ensures.value) c.block.new.k c.first_event.result c.first_event.ensures.written c.in-Ok.ensures.steps

pub returns-in-Err-clause-stays : goal.returns-in-Err-clause-stays
returns-in-Err-clause-stays c = refused_moves c.args.k.now c.try_read.new.board c.args.p c.args.channel c.try_read.ensures.left
    (sym (c.in-Some-None.is ∙ ap Some c.in-Some-None.field-0-is) ∙ c.try_read.ensures.value) c.block.new.k c.in-Err.ensures.stays

pub returns-in-None-clause-steps : goal.returns-in-None-clause-steps
returns-in-None-clause-steps c = no_fifo_steps c.args.k.now c.try_read.new.board c.args.p c.args.channel c.try_read.ensures.left c.args.target (sym c.in-None.is ∙ c.try_read.ensures.value) c.pass.new.k c.pass.ensures.steps

pub returns-in-Err-clause-blocked : goal.returns-in-Err-clause-blocked
returns-in-Err-clause-blocked c = sym c.try_read.ensures.value ∙ c.in-Some-None.is ∙ ap Some c.in-Some-None.field-0-is
