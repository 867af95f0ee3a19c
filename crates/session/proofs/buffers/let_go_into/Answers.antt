use Rattle.session.proofs.Texts.{file_goes, no_file_goes}
use Rattle.session.proofs.buffers.let_go_into.Goals as goal

pub returns-in-Some-clause-goes : goal.returns-in-Some-clause-goes
returns-in-Some-clause-goes g c = rw c.in-Some.is (file_goes g.S.Shelf.files g.S.Shelf.stands c.args.shelf.now c.flush_file.new.shelf c.in-Some.id c.args.held.now c.flush_file.result c.flush_file.ensures.took)

pub returns-in-None-clause-goes : goal.returns-in-None-clause-goes
returns-in-None-clause-goes g c = rw c.in-None.is (no_file_goes g.S.Shelf.files g.S.Shelf.stands c.args.shelf.now c.args.held.now)
