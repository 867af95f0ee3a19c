use Rattle.tlmsim.proofs.Ends.{told_cut}
use Rattle.tlmsim.proofs.generating.tell_steps.Goals as goal

pub returns-clause-tells : goal.returns-clause-tells
returns-clause-tells g c = rw c.cut-in-Err.ensures
    (told_cut _ _ c.args.outcome c.in-Err.trouble c.if-is_cut.ensures (rw c.in-Ok.ensures at (rw c.as_slice.ensures at c.in-Err.ensures.bytes)))
