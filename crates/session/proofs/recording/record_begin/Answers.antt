use Rattle.std.proofs.Common.{[], Ok, Err, refl}
use Rattle.sim_io.proofs.Chains.{grew_none}
use Rattle.session.specs.Outputs.{AreNames}
use Rattle.session.specs.Telling.{HeaderOf, Nothing, TextFor}
use Rattle.session.proofs.Outputs.{file_same, let_go_on, let_go_from, records, trace_parts, with_nothing}
use Rattle.session.proofs.recording.record_begin.Goals as goal

pub returns-in-Ok-clause-records : goal.returns-in-Ok-clause-records
returns-in-Ok-clause-records g c =
    let (trace, traced, grown) = c.in-Ok.ensures.traces in
    records g.S.Shelf.files g.S.Shelf.stands c.args.vcd c.args.list c.args.shelf.now c.begin_trace.new.shelf c.begin_trace.new.shelf _ _ c.begin_trace.ensures.kept.ids.stands _ _ _ _ _ (Ok tt) [] trace []
    (grew_none (g.O.Sink.holds c.args.out.now)) grown (file_same g.S.Shelf.files g.S.Shelf.stands c.begin_trace.new.shelf c.args.list)
    (trace_parts Nothing (TextFor c.args.vcd (HeaderOf c.args.k.now)) _ _ (Ok tt) (with_nothing _ _ refl) traced refl)

pub returns-in-Err-clause-records : goal.returns-in-Err-clause-records
returns-in-Err-clause-records g c =
    let (trace, traced, grown) = c.in-Err.ensures.traces in
    let_go_on Nothing (TextFor c.args.vcd (HeaderOf c.args.k.now)) Nothing (AreNames g.S.Shelf.stands c.args.shelf.now c.args.vcd c.args.list) _ _ _ _ _ c.in-Err.trouble
    (records g.S.Shelf.files g.S.Shelf.stands c.args.vcd c.args.list c.args.shelf.now c.begin_trace.new.shelf c.begin_trace.new.shelf _ _ c.begin_trace.ensures.kept.ids.stands _ _ _ _ _ (Err c.in-Err.trouble) [] trace []
    (grew_none (g.O.Sink.holds c.args.out.now)) grown (file_same g.S.Shelf.files g.S.Shelf.stands c.begin_trace.new.shelf c.args.list)
    (trace_parts Nothing (TextFor c.args.vcd (HeaderOf c.args.k.now)) _ _ (Err c.in-Err.trouble) (with_nothing _ _ refl) traced refl))
    (let_go_from g.S.Shelf.stands c.args.shelf.now c.begin_trace.new.shelf c.args.vcd c.args.list c.begin_trace.ensures.kept.ids.stands _ _ _ c.let_go.ensures.goes)
