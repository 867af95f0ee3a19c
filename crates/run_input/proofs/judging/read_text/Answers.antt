use Rattle.std.proofs.Common.{◌∙◌, sym}
use Rattle.run_input.proofs.Refusals.{read_only}
use Rattle.run_input.proofs.judging.read_text.Goals as goal

pub returns-in-Err-Syntax-clause-only : goal.returns-in-Err-Syntax-clause-only
returns-in-Err-Syntax-clause-only c =
    read_only c.args.text.now c.in-Err-Syntax.line c.read_expanded.result (λ m reads. sym c.in-Err-Syntax.field-0-is ∙ c.in-Err-Syntax.ensures.only m reads) c.read_expanded.ensures.only
