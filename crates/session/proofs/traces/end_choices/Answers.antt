use Rattle.session.proofs.Texts.{held_out}
use Rattle.session.proofs.traces.end_choices.Goals as goal

pub returns-in-Some-clause-lists : goal.returns-in-Some-clause-lists
returns-in-Some-clause-lists g c = rw c.in-Some.is
    (held_out g.S.Shelf.files g.S.Shelf.stands c.args.shelf.now c.flush_file.new.shelf c.in-Some.id _ _ c.flush_file.result c.flush_file.ensures.took c.flush_file.ensures.empty)
