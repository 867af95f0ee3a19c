use Rattle.session.specs.Telling.{PointOf}
use Rattle.session.proofs.Texts.{file_into}
use Rattle.session.proofs.traces.trace_point.Goals as goal

pub returns-in-Ok-clause-traces : goal.returns-in-Ok-clause-traces
returns-in-Ok-clause-traces g c =
    file_into g.S.Shelf.files g.S.Shelf.stands c.args.shelf.now c.put_file.new.shelf c.args.id (PointOf c.args.k.now c.args.time.0 c.args.tracing.now c.step_point.new.self) c.in-Ok.text _ _ c.put_file.result
    (record { adds = c.in-Ok.ensures.text; keeps = c.in-Ok.ensures.keeps }) (rw c.as_slice.ensures at c.put_file.ensures.took)
