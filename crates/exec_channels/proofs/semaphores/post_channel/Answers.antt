use Rattle.std.proofs.Common.{sym, ◌∙◌}
use Rattle.exec_channels.proofs.TriedSemaphores.{post_steps, no_post_steps}
use Rattle.exec_channels.proofs.semaphores.post_channel.Goals as goal

pub returns-then-give-clause-steps : goal.returns-then-give-clause-steps
returns-then-give-clause-steps c = post_steps c.args.k.now c.give.new.board c.args.p c.args.channel c.give.ensures.left c.pass.new.k c.pass.ensures.steps (sym c.if-give.true ∙ c.give.ensures.there) c.fire.new.k c.first_event.result c.first_event.ensures.own c.fire.ensures.moves

pub returns-else-give-clause-steps : goal.returns-else-give-clause-steps
returns-else-give-clause-steps c = no_post_steps c.args.k.now c.give.new.board c.args.p c.args.channel c.give.ensures.left c.pass-else-give.new.k c.pass-else-give.ensures.steps (sym c.if-give.false ∙ c.give.ensures.there)
