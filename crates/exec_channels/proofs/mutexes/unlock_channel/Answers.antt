use Rattle.std.proofs.Common.{Some, sym, ap, ◌∙◌}
use Rattle.kernel_view.specs.SimModel.Residual.{settle}
use Rattle.kernel_view.specs.SimModel.Configuration.{arena}
use Rattle.kernel_view.specs.SimModel.Storing.{passes}
use Rattle.kernel_view.specs.SimModel.Statements.{settled_in}
use Rattle.kernel_view.proofs.KernelState.Frames.{lives_still}
use Rattle.kernel_view.specs.Standings.{next_here}
use Rattle.exec_channels.proofs.TriedMutexes.{unlock_moves, not_unlocked_moves, no_unlock_moves}
use Rattle.exec_channels.proofs.mutexes.unlock_channel.Goals as goal

pub tell-requires-clause-lives : goal.tell-requires-clause-lives
tell-requires-clause-lives c = lives_still (record c.past.new.k { channels = c.try_unlock.new.board }) c.fire.new.k c.args.p c.fire.ensures.kept c.past.ensures.lives

pub returns-in-Some-true-clause-steps : goal.returns-in-Some-true-clause-steps
returns-in-Some-true-clause-steps c = λ d i h there.
    unlock_moves c.past.new.k c.try_unlock.new.board c.args.p c.args.channel c.try_unlock.ensures.left (next_here d c.args.p i) c.args.target
    (sym (c.in-Some-true.is ∙ ap Some c.in-Some-true.field-0-test) ∙ c.try_unlock.ensures.done) c.fire.new.k c.tell.new.k c.first_event.result c.first_event.ensures.own c.fire.ensures.moves
    (c.tell.ensures.moves (next_here d c.args.p i) c.args.target (c.slot_at-slot.ensures d i h there))
    (passes (settled_in d c.args.p i.residual) c.args.p (settle (arena d) i.residual)) (c.past.ensures.steps d i h there)

pub returns-in-Some-false-clause-steps : goal.returns-in-Some-false-clause-steps
returns-in-Some-false-clause-steps c = λ d i h there.
    not_unlocked_moves c.past.new.k c.try_unlock.new.board c.args.p c.args.channel c.try_unlock.ensures.left (next_here d c.args.p i) c.args.target
    (sym (c.in-Some-false.is ∙ ap Some c.in-Some-false.field-0-test) ∙ c.try_unlock.ensures.done) c.tell-in-Some-false.new.k
    (c.tell-in-Some-false.ensures.moves (next_here d c.args.p i) c.args.target (c.slot_at-slot.ensures d i h there))
    (passes (settled_in d c.args.p i.residual) c.args.p (settle (arena d) i.residual)) (c.past.ensures.steps d i h there)

pub returns-in-None-clause-steps : goal.returns-in-None-clause-steps
returns-in-None-clause-steps c = λ d i h there.
    no_unlock_moves c.past.new.k c.try_unlock.new.board c.args.p c.args.channel c.try_unlock.ensures.left (next_here d c.args.p i) c.args.target (sym c.in-None.is ∙ c.try_unlock.ensures.done)
    (passes (settled_in d c.args.p i.residual) c.args.p (settle (arena d) i.residual)) (c.past.ensures.steps d i h there)
