use Rattle.logic_values.proofs.IntegerLemmas.{shl_far}
use Rattle.logic_values.proofs.integers.shl.Goals as goal

pub returns-else-n-lt64 : goal.returns-else-n-lt64
returns-else-n-lt64 c = shl_far c.args.a c.args.n c.if-n-lt64.false
