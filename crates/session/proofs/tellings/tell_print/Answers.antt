use Rattle.std.proofs.Common.{List, ℕ, sym, subst}
use Rattle.report_texts.specs.Instances.{IsPrintLine}
use Rattle.session.specs.Telling.{TextOf}
use Rattle.kernel_runs.specs.declared.answers.Telling.TheVariants as telling
use Rattle.session.proofs.Texts.{print_text, told_into}
use Rattle.session.proofs.tellings.tell_print.Goals as goal

pub returns-in-Some-clause-tells : goal.returns-in-Some-clause-tells
returns-in-Some-clause-tells g c = told_into (TextOf c.args.k.now (telling.Print c.args.p c.args.s c.args.value)) c.past.result.now _ _ _ _ c.put.result
    (print_text c.args.k.now c.args.p c.args.s c.args.value c.past.result.now
    (subst (λ (line : List ℕ). IsPrintLine c.args.k.now c.args.p c.args.s c.args.value line) (sym c.past.ensures) c.in-Some.ensures.1))
    c.put.ensures.took
