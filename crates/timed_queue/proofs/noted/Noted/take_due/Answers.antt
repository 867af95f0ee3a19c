use Rattle.timed_queue.proofs.Notes.{has, noted_fewer, was_there}
use Rattle.timed_queue.proofs.noted.Noted.take_due.Goals as goal

pub invariant_of-self : goal.invariant_of-self
invariant_of-self c =
    let q = c.self.inside.queue in let q' = c.take_due.new.self in
    noted_fewer c.self.inside.flags.items (has q) (has q') (was_there q q' c.args.t c.take_due.ensures.left) c.self.invariant
