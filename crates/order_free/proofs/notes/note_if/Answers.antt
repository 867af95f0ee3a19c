use Rattle.order_free.specs.Tables as tables
use Rattle.order_free.proofs.Taking.{one_taken}
use Rattle.order_free.proofs.notes.note_if.Goals as goal

pub returns-in-None : goal.returns-in-None
returns-in-None c = rw c.in-None.is (tables.nothing c.args.tables.now)

pub returns-in-Some : goal.returns-in-Some
returns-in-Some c = rw c.in-Some.is (one_taken c.note.result c.args.x c.in-Some.what c.args.tables.now c.note.new.tables c.note.ensures)
