use Rattle.kernel_transactions.proofs.Counts.{within_more}
use Rattle.kernel_transactions.proofs.laws.bounds_grow.Goals as goal

pub returns : goal.returns
returns c = λ n m b more within. within_more n m b.pool more within
