use Rattle.session.specs.Telling.{HeaderOf}
use Rattle.session.proofs.Texts.{file_into}
use Rattle.session.proofs.traces.begin_trace.Goals as goal

pub returns-in-Ok-clause-traces : goal.returns-in-Ok-clause-traces
returns-in-Ok-clause-traces g c = rw c.in-Some.is
    (file_into g.S.Shelf.files g.S.Shelf.stands c.args.shelf.now c.put_file.new.shelf c.in-Some.id (HeaderOf c.args.k.now) c.in-Ok.text _ _ c.put_file.result c.in-Ok.ensures.header (rw c.as_slice.ensures at c.put_file.ensures.took))
