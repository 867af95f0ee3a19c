use Rattle.std.proofs.Common.{sym, ◌∙◌}
use Rattle.kernel_view.specs.SimModel.Residual.{settle}
use Rattle.kernel_view.specs.SimModel.Configuration.{arena}
use Rattle.kernel_view.specs.SimModel.Statements.{settled_in}
use Rattle.kernel_view.specs.Standings.{next_here}
use Rattle.exec_channels.proofs.TriedFifos.{nb_write_stands, no_write_stands}
use Rattle.exec_channels.proofs.fifos.nb_write_channel.Goals as goal

pub returns-in-Some-clause-steps : goal.returns-in-Some-clause-steps
returns-in-Some-clause-steps c = λ d i h there.
    nb_write_stands c.past.new.k c.try_write.new.board c.args.p c.args.channel c.args.v c.try_write.ensures.left (settled_in d c.args.p i.residual) (settle (arena d) i.residual) (next_here d c.args.p i) c.args.target
    (c.past.ensures.steps d i h there) c.in-Some.done (sym c.in-Some.is ∙ c.try_write.ensures.done) c.put.new.k (c.put.ensures.moves (next_here d c.args.p i) c.args.target (c.slot_at-slot.ensures d i h there))

pub returns-in-None-clause-steps : goal.returns-in-None-clause-steps
returns-in-None-clause-steps c = λ d i h there.
    no_write_stands c.past.new.k c.try_write.new.board c.args.p c.args.channel c.args.v c.try_write.ensures.left (settled_in d c.args.p i.residual) (settle (arena d) i.residual) (next_here d c.args.p i) c.args.target
    (c.past.ensures.steps d i h there) (sym c.in-None.is ∙ c.try_write.ensures.done)
