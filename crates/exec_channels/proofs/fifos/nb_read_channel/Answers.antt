use Rattle.std.proofs.Common.{Some, sym, ap, ◌∙◌}
use Rattle.kernel_view.specs.SimModel.Residual.{settle}
use Rattle.kernel_view.specs.SimModel.Configuration.{arena}
use Rattle.kernel_view.specs.SimModel.Statements.{settled_in}
use Rattle.kernel_view.specs.Standings.{next_here}
use Rattle.exec_channels.proofs.TriedFifos.{nb_read_stands, not_read_stands, no_read_stands}
use Rattle.exec_channels.proofs.fifos.nb_read_channel.Goals as goal

pub returns-in-Some-Some-clause-steps : goal.returns-in-Some-Some-clause-steps
returns-in-Some-Some-clause-steps c = λ d i h there.
    nb_read_stands c.past.new.k c.try_read.new.board c.args.p c.args.channel c.try_read.ensures.left (settled_in d c.args.p i.residual) (settle (arena d) i.residual) (next_here d c.args.p i) c.args.target c.args.to
    (c.past.ensures.steps d i h there) c.in-Some-Some.v (sym (c.in-Some-Some.is ∙ ap Some c.in-Some-Some.field-0-is) ∙ c.try_read.ensures.value) c.put.new.k c.put-in-Some-Some.new.k
    (c.put.ensures.moves (next_here d c.args.p i) c.args.target (c.slot_at-slot.ensures d i h there)) (c.put-in-Some-Some.ensures.moves (next_here d c.args.p i) (Some c.args.to) (c.slot_at-to_slot.ensures d i h there))

pub returns-in-Some-None-clause-steps : goal.returns-in-Some-None-clause-steps
returns-in-Some-None-clause-steps c = λ d i h there.
    not_read_stands c.past.new.k c.try_read.new.board c.args.p c.args.channel c.try_read.ensures.left (settled_in d c.args.p i.residual) (settle (arena d) i.residual) (next_here d c.args.p i) c.args.target c.args.to
    (c.past.ensures.steps d i h there) (sym (c.in-Some-None.is ∙ ap Some c.in-Some-None.field-0-is) ∙ c.try_read.ensures.value) c.put-in-Some-None.new.k
    (c.put-in-Some-None.ensures.moves (next_here d c.args.p i) c.args.target (c.slot_at-slot.ensures d i h there))

pub returns-in-None-clause-steps : goal.returns-in-None-clause-steps
returns-in-None-clause-steps c = λ d i h there.
    no_read_stands c.past.new.k c.try_read.new.board c.args.p c.args.channel c.try_read.ensures.left (settled_in d c.args.p i.residual) (settle (arena d) i.residual) (next_here d c.args.p i) c.args.target c.args.to
    (c.past.ensures.steps d i h there) (sym c.in-None.is ∙ c.try_read.ensures.value)
