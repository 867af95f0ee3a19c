use Rattle.std.proofs.Common.{sym, ap, ◌∙◌}
use Rattle.flat_design.specs.Code.{argument_term}
use Rattle.exec_data.specs.SimModel.Calls.{argument_value}
use Rattle.exec_data.specs.KernelView.Standings.{next_here}
use Rattle.exec_calls.proofs.arguments.argument_value.Goals as goal

pub returns-in-Inout : goal.returns-in-Inout
returns-in-Inout c = λ d i h there. c.named_at.ensures d i h there ∙ sym (ap (λ a. argument_value (next_here d c.args.p i) (argument_term a)) c.in-Inout.is)

pub returns-in-Value : goal.returns-in-Value
returns-in-Value c = λ d i h there. c.eval_at.ensures d i h there ∙ sym (ap (λ a. argument_value (next_here d c.args.p i) (argument_term a)) c.in-Value.is)
