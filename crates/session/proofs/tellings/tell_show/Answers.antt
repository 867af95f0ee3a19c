use Rattle.session.specs.Telling.{TextOf, text_if}
use Rattle.kernel_runs.specs.declared.answers.Telling.TheVariants as telling
use Rattle.session.proofs.Texts.{show_text, told_into}
use Rattle.session.proofs.tellings.tell_show.Goals as goal

pub returns-in-Ok-clause-tells : goal.returns-in-Ok-clause-tells
returns-in-Ok-clause-tells g c = told_into (TextOf c.args.k.now (telling.Show c.args.number)) (text_if c.in-Ok.text) _ _ _ _ c.write_text.result
    (show_text c.args.k.now c.args.number c.in-Ok.text c.in-Ok.ensures)
    c.write_text.ensures.took
