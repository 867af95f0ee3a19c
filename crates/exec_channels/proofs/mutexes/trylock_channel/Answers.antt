use Rattle.std.proofs.Common.{sym, ◌∙◌}
use Rattle.kernel_view.specs.SimModel.Residual.{settle}
use Rattle.kernel_view.specs.SimModel.Configuration.{arena}
use Rattle.kernel_view.specs.SimModel.Storing.{passes}
use Rattle.kernel_view.specs.SimModel.Statements.{settled_in}
use Rattle.kernel_view.specs.Standings.{next_here}
use Rattle.exec_channels.proofs.TriedMutexes.{trylock_moves, no_trylock_moves}
use Rattle.exec_channels.proofs.mutexes.trylock_channel.Goals as goal

pub returns-in-Some-clause-steps : goal.returns-in-Some-clause-steps
returns-in-Some-clause-steps c = λ d i h there.
    trylock_moves c.past.new.k c.try_lock.new.board c.args.p c.args.channel c.try_lock.ensures.left (next_here d c.args.p i) c.args.target c.in-Some.done (sym c.in-Some.is ∙ c.try_lock.ensures.done) c.tell.new.k
    (c.tell.ensures.moves (next_here d c.args.p i) c.args.target (c.slot_at-slot.ensures d i h there))
    (passes (settled_in d c.args.p i.residual) c.args.p (settle (arena d) i.residual)) (c.past.ensures.steps d i h there)

pub returns-in-None-clause-steps : goal.returns-in-None-clause-steps
returns-in-None-clause-steps c = λ d i h there.
    no_trylock_moves c.past.new.k c.try_lock.new.board c.args.p c.args.channel c.try_lock.ensures.left (next_here d c.args.p i) c.args.target (sym c.in-None.is ∙ c.try_lock.ensures.done)
    (passes (settled_in d c.args.p i.residual) c.args.p (settle (arena d) i.residual)) (c.past.ensures.steps d i h there)
