use Rattle.std.proofs.Common.{ap, ◌∙◌}
use Rattle.exec_calls.specs.SimModel.Transport.{value_or}
use Rattle.exec_transactions.proofs.values.value_at.Goals as goal

pub returns : goal.returns
returns c = λ d i h there. c.value_or.ensures ∙ ap value_or (c.named_at.ensures d i h there)
