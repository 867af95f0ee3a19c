use Rattle.std.proofs.Common.{refl}
use Rattle.clocked.proofs.turns.closed.Goals as goal

pub returns-in_ok-thread_end-in-None : goal.returns-in_ok-thread_end-in-None
returns-in_ok-thread_end-in-None c = rw c.in-None.is (refl, c.in_ok-thread_end-in-None.ensures)
