use Rattle.vcd_trace.specs.SimModel.declared.plain.Log.TheVariants as log_of
use Rattle.session.specs.Telling.{TextOfTurn}
use Rattle.session.proofs.Texts.{told_into, turn_text}
use Rattle.session.proofs.tellings.tell_taking.Goals as goal

pub returns-in-Ok-clause-tells : goal.returns-in-Ok-clause-tells
returns-in-Ok-clause-tells g c = told_into (TextOfTurn c.args.k.now log_of.Turns c.args.p) c.in-Ok.line _ _ _ _ c.put.result
    (turn_text c.args.k.now c.args.p c.in-Ok.line c.in-Ok.ensures)
    (rw c.as_slice.ensures at c.put.ensures.took)
