use Rattle.timed_queue.proofs.Notes.{noted_pushed}
use Rattle.timed_queue.proofs.noted.grow.Goals as goal

pub growing-preserved : goal.growing-preserved
growing-preserved c = λ test noted. noted_pushed c.growing.flags.items c.push.new.self.items test c.in-Ok.ensures.items (c.growing.invariant test noted)
