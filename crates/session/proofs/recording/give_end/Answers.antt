use Rattle.std.proofs.Common.{[], refl}
use Rattle.session.specs.Telling.{IsClosing, LastPointOf, Nothing, TextFor}
use Rattle.session.proofs.Outputs.{choices_part, file_same, records, report_part, trace_part}
use Rattle.session.proofs.recording.give_end.Goals as goal

pub returns-in-Err-clause-records : goal.returns-in-Err-clause-records
returns-in-Err-clause-records g c =
    let (report, told, grew) = c.in-Err.ensures.tells in
    records g.S.Shelf.files g.S.Shelf.stands c.args.vcd c.args.list c.args.shelf.now c.args.shelf.now c.args.shelf.now _ _ (λ id name named. named) _ _ _ _ _ _ report [] []
    grew (file_same g.S.Shelf.files g.S.Shelf.stands c.args.shelf.now c.args.vcd) (file_same g.S.Shelf.files g.S.Shelf.stands c.args.shelf.now c.args.list)
    (report_part (IsClosing c.args.k.now c.args.stop) (TextFor c.args.vcd (LastPointOf c.args.k.now c.args.tracing.now)) Nothing _ _ c.in-Err.trouble told refl refl)

pub returns-in-Ok-end_trace-clause-records : goal.returns-in-Ok-end_trace-clause-records
returns-in-Ok-end_trace-clause-records g c =
    let (report, told, grew) = c.in-Ok.ensures.tells in
    let (trace, traced, grown) = c.in-Ok-end_trace.ensures.traces in
    let (choices, listed, more) = c.end_choices.ensures.lists in
    records g.S.Shelf.files g.S.Shelf.stands c.args.vcd c.args.list c.args.shelf.now c.end_trace.new.shelf c.end_choices.new.shelf _ _ c.end_trace.ensures.kept.ids.stands _ _ _ _ _ c.end_choices.result report trace choices grew grown more
    (choices_part (IsClosing c.args.k.now c.args.stop) (TextFor c.args.vcd (LastPointOf c.args.k.now c.args.tracing.now)) Nothing _ _ c.end_choices.result told traced listed)

pub returns-in-Err-end_trace-clause-records : goal.returns-in-Err-end_trace-clause-records
returns-in-Err-end_trace-clause-records g c =
    let (report, told, grew) = c.in-Ok.ensures.tells in
    let (trace, traced, grown) = c.in-Err-end_trace.ensures.traces in
    records g.S.Shelf.files g.S.Shelf.stands c.args.vcd c.args.list c.args.shelf.now c.end_trace.new.shelf c.end_trace.new.shelf _ _ c.end_trace.ensures.kept.ids.stands _ _ _ _ _ _ report trace []
    grew grown (file_same g.S.Shelf.files g.S.Shelf.stands c.end_trace.new.shelf c.args.list)
    (trace_part (IsClosing c.args.k.now c.args.stop) (TextFor c.args.vcd (LastPointOf c.args.k.now c.args.tracing.now)) Nothing _ _ c.in-Err-end_trace.trouble told traced refl)
