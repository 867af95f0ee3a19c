use Rattle.session.specs.Outputs.{AreNames}
use Rattle.session.specs.Telling.{IsLineOf, Nothing, TextFor, TextOfTurn}
use Rattle.session.proofs.Outputs.{let_go_from, let_go_on}
use Rattle.session.proofs.recording.record_turn.Goals as goal

pub returns-in-Ok-clause-records : goal.returns-in-Ok-clause-records
returns-in-Ok-clause-records g c = c.in-Ok.ensures.records c.args.vcd

pub returns-in-Err-clause-records : goal.returns-in-Err-clause-records
returns-in-Err-clause-records g c =
    let_go_on (TextOfTurn c.args.k.now c.args.log c.args.serial) Nothing (TextFor c.args.list (IsLineOf c.args.serial)) (AreNames g.S.Shelf.stands c.args.shelf.now c.args.vcd c.args.list) _ _ _ _ _ c.in-Err.trouble
    (c.in-Err.ensures.records c.args.vcd)
    (let_go_from g.S.Shelf.stands c.args.shelf.now c.give_turn.new.shelf c.args.vcd c.args.list c.give_turn.ensures.kept.ids.stands _ _ _ c.let_go.ensures.goes)
