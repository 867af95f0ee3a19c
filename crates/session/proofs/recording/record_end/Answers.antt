use Rattle.session.specs.Outputs.{AreNames, due_of, no_texts}
use Rattle.session.specs.Telling.{IsClosing, LastPointOf, Nothing, TextFor}
use Rattle.session.proofs.Outputs.{let_go_from, let_go_on}
use Rattle.session.proofs.recording.record_end.Goals as goal

pub returns-in-Ok-clause-closes : goal.returns-in-Ok-clause-closes
returns-in-Ok-clause-closes g c = (due_of c.give_end.new.held, c.in-Ok.ensures.records, c.in-Ok.ensures.out)

pub returns-in-Err-clause-closes : goal.returns-in-Err-clause-closes
returns-in-Err-clause-closes g c = (
  no_texts,
  let_go_on (IsClosing c.args.k.now c.args.stop) (TextFor c.args.vcd (LastPointOf c.args.k.now c.args.tracing.now)) Nothing (AreNames g.S.Shelf.stands c.args.shelf.now c.args.vcd c.args.list) _ _ _ _ _ c.in-Err.trouble
      c.in-Err.ensures.records
      (let_go_from g.S.Shelf.stands c.args.shelf.now c.give_end.new.shelf c.args.vcd c.args.list c.give_end.ensures.kept.ids.stands _ _ _ c.let_go.ensures.goes),
  tt,
)
