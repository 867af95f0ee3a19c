use Rattle.std.proofs.Common.{arith}
use Rattle.sim_time.proofs.sums.femtoseconds.Goals as goal
use Rattle.sim_time.proofs.Powers.{ten_is_some}

pub returns-clause-some : goal.returns-clause-some
returns-clause-some c = let some = ten_is_some c.args.r.power in let is = c.pow.ensures in grind arith
