use Rattle.std.proofs.Common.{[], refl}
use Rattle.session.specs.Telling.{IsLineOf, Nothing, TextFor, TextOfTurn}
use Rattle.session.proofs.Outputs.{choices_part, file_same, records, report_part, with_nothing}
use Rattle.session.proofs.recording.give_turn.Goals as goal

pub returns-in-Ok-clause-records : goal.returns-in-Ok-clause-records
returns-in-Ok-clause-records g c = λ vcd.
    let (report, told, grew) = c.in-Ok.ensures.tells in
    let (choices, listed, grown) = c.list_choice.ensures.lists in
    records g.S.Shelf.files g.S.Shelf.stands vcd c.args.list c.args.shelf.now c.args.shelf.now c.list_choice.new.shelf _ _ (λ id name named. named) _ _ _ _ _ c.list_choice.result report [] choices
    grew (file_same g.S.Shelf.files g.S.Shelf.stands c.args.shelf.now vcd) grown
    (choices_part (TextOfTurn c.args.k.now c.args.log c.args.serial) Nothing (TextFor c.args.list (IsLineOf c.args.serial)) _ _ c.list_choice.result told (with_nothing _ _ refl) listed)

pub returns-in-Err-clause-records : goal.returns-in-Err-clause-records
returns-in-Err-clause-records g c = λ vcd.
    let (report, told, grew) = c.in-Err.ensures.tells in
    records g.S.Shelf.files g.S.Shelf.stands vcd c.args.list c.args.shelf.now c.args.shelf.now c.args.shelf.now _ _ (λ id name named. named) _ _ _ _ _ _ report [] []
    grew (file_same g.S.Shelf.files g.S.Shelf.stands c.args.shelf.now vcd) (file_same g.S.Shelf.files g.S.Shelf.stands c.args.shelf.now c.args.list)
    (report_part (TextOfTurn c.args.k.now c.args.log c.args.serial) Nothing (TextFor c.args.list (IsLineOf c.args.serial)) _ _ c.in-Err.trouble told refl refl)
