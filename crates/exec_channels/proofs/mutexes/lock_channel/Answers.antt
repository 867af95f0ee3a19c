use Rattle.std.proofs.Common.{Some, sym, ap, ◌∙◌}
use Rattle.exec_channels.proofs.TriedMutexes.{lock_steps, blocked_steps, refused_moves, no_mutex_steps}
use Rattle.exec_channels.proofs.mutexes.lock_channel.Goals as goal

pub returns-in-Some-true-clause-steps : goal.returns-in-Some-true-clause-steps
returns-in-Some-true-clause-steps c = lock_steps c.args.k.now c.try_lock.new.board c.args.p c.args.channel c.try_lock.ensures.left (sym (c.in-Some-true.is ∙ ap Some c.in-Some-true.field-0-test) ∙ c.try_lock.ensures.done) c.pass.new.k c.pass.ensures.steps

pub returns-in-Ok-clause-steps : goal.returns-in-Ok-clause-steps
returns-in-Ok-clause-steps c = blocked_steps c.args.k.now c.try_lock.new.board c.args.p c.args.channel c.try_lock.ensures.left (sym (c.in-Some-false.is ∙ ap Some c.in-Some-false.field-0-test) ∙ c.try_lock.ensures.done) c.block.new.k c.first_event.result c.first_event.ensures.own c.in-Ok.ensures.steps

pub returns-in-Err-clause-stays : goal.returns-in-Err-clause-stays
returns-in-Err-clause-stays c = refused_moves c.args.k.now c.try_lock.new.board c.args.p c.args.channel c.try_lock.ensures.left (sym (c.in-Some-false.is ∙ ap Some c.in-Some-false.field-0-test) ∙ c.try_lock.ensures.done) c.block.new.k c.in-Err.ensures.stays

pub returns-in-None-clause-steps : goal.returns-in-None-clause-steps
returns-in-None-clause-steps c = no_mutex_steps c.args.k.now c.try_lock.new.board c.args.p c.args.channel c.try_lock.ensures.left (sym c.in-None.is ∙ c.try_lock.ensures.done) c.pass-in-None.new.k c.pass-in-None.ensures.steps

pub returns-in-Err-clause-blocked : goal.returns-in-Err-clause-blocked
returns-in-Err-clause-blocked c = sym c.try_lock.ensures.done ∙ c.in-Some-false.is ∙ ap Some c.in-Some-false.field-0-test
