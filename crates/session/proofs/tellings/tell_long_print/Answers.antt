use Rattle.session.specs.Telling.{TextOf}
use Rattle.kernel_runs.specs.declared.answers.Telling.TheVariants as telling
use Rattle.session.proofs.Texts.{print_text, told_into}
use Rattle.session.proofs.tellings.tell_long_print.Goals as goal

pub returns-in-Ok-clause-tells : goal.returns-in-Ok-clause-tells
returns-in-Ok-clause-tells g c = told_into (TextOf c.args.k.now (telling.Print c.args.p c.args.s c.args.value)) c.print_in.new.line.items _ _ _ _ c.put.result
    (print_text c.args.k.now c.args.p c.args.s c.args.value c.print_in.new.line.items c.in-Ok.ensures)
    (rw c.as_slice.ensures.value at c.put.ensures.took)
