use Rattle.session.specs.Telling.{IsLineOf}
use Rattle.session.proofs.Texts.{file_into}
use Rattle.session.proofs.traces.list_line.Goals as goal

pub returns-in-Ok-clause-lists : goal.returns-in-Ok-clause-lists
returns-in-Ok-clause-lists g c =
    file_into g.S.Shelf.files g.S.Shelf.stands c.args.shelf.now c.put_file.new.shelf c.args.id (IsLineOf c.args.choice) _ _ _ c.put_file.result c.in-Ok.ensures (rw c.as_bytes.ensures.value at c.put_file.ensures.took)
