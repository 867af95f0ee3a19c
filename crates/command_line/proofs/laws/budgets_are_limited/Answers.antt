use Rattle.command_line.proofs.Budgets.{generations_within, simulated_within}
use Rattle.command_line.proofs.laws.budgets_are_limited.Goals as goal

pub returns : goal.returns
returns c = record { simulated = simulated_within; generated = generations_within }
