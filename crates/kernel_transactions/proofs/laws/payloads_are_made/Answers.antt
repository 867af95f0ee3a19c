use Rattle.kernel_transactions.proofs.Making.{made_as}
use Rattle.kernel_transactions.proofs.laws.payloads_are_made.Goals as goal

pub returns : goal.returns
returns c = made_as
