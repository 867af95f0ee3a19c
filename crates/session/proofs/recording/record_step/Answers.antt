use Rattle.session.specs.Outputs.{AreNames}
use Rattle.session.specs.Telling.{Nothing, PointOf, TextFor, TextOf}
use Rattle.session.proofs.Outputs.{let_go_from, let_go_on}
use Rattle.session.proofs.recording.record_step.Goals as goal

pub returns-in-Ok-clause-records : goal.returns-in-Ok-clause-records
returns-in-Ok-clause-records g c = c.in-Ok.ensures.records c.args.list

pub returns-in-Err-clause-records : goal.returns-in-Err-clause-records
returns-in-Err-clause-records g c =
    let_go_on (TextOf c.args.k.now c.args.told) (TextFor c.args.vcd (PointOf c.args.k.now c.args.time.0 c.args.tracing.now c.give_step.new.tracing)) Nothing (AreNames g.S.Shelf.stands c.args.shelf.now c.args.vcd c.args.list) _ _ _ _ _ c.in-Err.trouble
    (c.in-Err.ensures.records c.args.list)
    (let_go_from g.S.Shelf.stands c.args.shelf.now c.give_step.new.shelf c.args.vcd c.args.list c.give_step.ensures.kept.ids.stands _ _ _ c.let_go.ensures.goes)
