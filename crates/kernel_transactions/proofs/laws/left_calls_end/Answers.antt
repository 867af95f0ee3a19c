use Rattle.kernel_transactions.proofs.Frames.{left_is}
use Rattle.kernel_transactions.proofs.laws.left_calls_end.Goals as goal

pub returns-clause-calls : goal.returns-clause-calls
returns-clause-calls c = left_is
