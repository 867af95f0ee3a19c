use Rattle.std.proofs.Common.{[], refl}
use Rattle.session.specs.Telling.{Nothing, PointOf, TextFor, TextOf}
use Rattle.session.proofs.Outputs.{file_same, records, report_part, trace_parts}
use Rattle.session.proofs.recording.give_step.Goals as goal

pub returns-in-Ok-clause-records : goal.returns-in-Ok-clause-records
returns-in-Ok-clause-records g c = λ list.
    let (report, told, grew) = c.in-Ok.ensures.tells in
    let (trace, traced, grown) = c.trace_step.ensures.traces in
    records g.S.Shelf.files g.S.Shelf.stands c.args.vcd list c.args.shelf.now c.trace_step.new.shelf c.trace_step.new.shelf _ _ c.trace_step.ensures.kept.ids.stands _ _ _ _ _ c.trace_step.result report trace []
    grew grown (file_same g.S.Shelf.files g.S.Shelf.stands c.trace_step.new.shelf list)
    (trace_parts (TextOf c.args.k.now c.args.told) (TextFor c.args.vcd (PointOf c.args.k.now c.args.time.0 c.args.tracing.now c.trace_step.new.tracing)) _ _ c.trace_step.result told traced refl)

pub returns-in-Err-clause-records : goal.returns-in-Err-clause-records
returns-in-Err-clause-records g c = λ list.
    let (report, told, grew) = c.in-Err.ensures.tells in
    records g.S.Shelf.files g.S.Shelf.stands c.args.vcd list c.args.shelf.now c.args.shelf.now c.args.shelf.now _ _ (λ id name named. named) _ _ _ _ _ _ report [] []
    grew (file_same g.S.Shelf.files g.S.Shelf.stands c.args.shelf.now c.args.vcd) (file_same g.S.Shelf.files g.S.Shelf.stands c.args.shelf.now list)
    (report_part (TextOf c.args.k.now c.args.told) (TextFor c.args.vcd (PointOf c.args.k.now c.args.time.0 c.args.tracing.now c.args.tracing.now)) Nothing _ _ c.in-Err.trouble told refl refl)
