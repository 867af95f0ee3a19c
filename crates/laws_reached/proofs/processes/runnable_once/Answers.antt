use Rattle.std.proofs.Common.{arith}
use Rattle.laws_reached.proofs.Reaching.{clean-reached}
use Rattle.laws_reached.proofs.processes.runnable_once.Goals as goal

pub returns : goal.returns
returns c d r q = let once = (clean-reached d r).once q in omega (arith, once)
