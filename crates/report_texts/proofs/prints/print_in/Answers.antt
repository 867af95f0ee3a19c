use Rattle.std.proofs.lemmas.Result.{on_ok_weaker}
use Rattle.report_texts.proofs.PathTexts.{is_print}
use Rattle.report_texts.proofs.prints.print_in.Goals as goal

pub returns : goal.returns
returns c =
    on_ok_weaker c.push_print.result
    (λ is. is_print c.args.k.now c.args.p c.args.s c.args.value c.text_at.result.now c.push_print.new.line.items c.text_at.ensures is)
    (rw c.clear.ensures.items at c.push_print.ensures)
