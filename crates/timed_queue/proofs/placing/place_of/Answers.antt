use Rattle.std.proofs.Common.{arith}
use Rattle.timed_queue.proofs.PlaceLaws.{place-lt}
use Rattle.timed_queue.proofs.placing.place_of.Goals as goal

pub returns-clause-within : goal.returns-clause-within
returns-clause-within c = let e = place-lt 10 c.args.t c.args.origin in omega (arith, e, c.place_from.ensures)
