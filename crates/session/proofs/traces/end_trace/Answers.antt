use Rattle.std.proofs.Common.{Ok, Err, sym, subst}
use Rattle.session.specs.Outputs.{FileGrew}
use Rattle.session.specs.Telling.{Into, LastPointOf, TextFor}
use Rattle.session.proofs.Texts.{file_into, file_out}
use Rattle.session.proofs.traces.end_trace.Goals as goal

pub returns-in-Ok-put_file-clause-traces : goal.returns-in-Ok-put_file-clause-traces
returns-in-Ok-put_file-clause-traces g c = rw c.in-Some.is
    (file_out g.S.Shelf.files g.S.Shelf.stands c.args.shelf.now c.put_file.new.shelf c.flush_file.new.shelf c.in-Some.id (LastPointOf c.args.k.now c.args.tracing.now) c.args.held.now c.put_file.new.self _ c.flush_file.result (c.in-Ok-put_file.ensures.kept.ids.stands c.in-Some.id)
    (file_into g.S.Shelf.files g.S.Shelf.stands c.args.shelf.now c.put_file.new.shelf c.in-Some.id (LastPointOf c.args.k.now c.args.tracing.now) c.in-Ok.text c.args.held.now c.put_file.new.self (Ok tt) c.in-Ok.ensures.text (rw c.as_slice.ensures at c.in-Ok-put_file.ensures.took))
    c.flush_file.ensures.took c.flush_file.ensures.empty)

pub returns-in-Ok-clause-traces : goal.returns-in-Ok-clause-traces
returns-in-Ok-clause-traces g c =
    subst (λ v. Into (TextFor v (LastPointOf c.args.k.now c.args.tracing.now)) (FileGrew g.S.Shelf.files g.S.Shelf.stands c.args.shelf.now c.put_file.new.shelf v) c.args.held.now c.put_file.new.self (Err c.in-Err-put_file.trouble)) (sym c.in-Some.is)
    (file_into g.S.Shelf.files g.S.Shelf.stands c.args.shelf.now c.put_file.new.shelf c.in-Some.id (LastPointOf c.args.k.now c.args.tracing.now) c.in-Ok.text c.args.held.now c.put_file.new.self (Err c.in-Err-put_file.trouble) c.in-Ok.ensures.text (rw c.as_slice.ensures at c.in-Err-put_file.ensures.took))
