use Rattle.std.proofs.Common.{Ok, Err}
use Rattle.session.specs.Telling.{IsClosing}
use Rattle.session.proofs.Texts.{told_into, told_out}
use Rattle.session.proofs.tellings.tell_end.Goals as goal

pub returns-in-Ok-put-clause-tells : goal.returns-in-Ok-put-clause-tells
returns-in-Ok-put-clause-tells g c = told_out (IsClosing c.args.k.now c.args.stop) _ _ _ c.args.held.now c.put.new.self _ c.flush.result
    (told_into (IsClosing c.args.k.now c.args.stop) c.in-Ok.text.items _ _ c.args.held.now c.put.new.self (Ok tt) c.in-Ok.ensures (rw c.as_slice.ensures.value at c.in-Ok-put.ensures.took)) c.flush.ensures.took c.flush.ensures.empty

pub returns-in-Ok-clause-tells : goal.returns-in-Ok-clause-tells
returns-in-Ok-clause-tells g c = told_into (IsClosing c.args.k.now c.args.stop) c.in-Ok.text.items _ _ c.args.held.now c.put.new.self (Err c.in-Err-put.trouble) c.in-Ok.ensures (rw c.as_slice.ensures.value at c.in-Err-put.ensures.took)
