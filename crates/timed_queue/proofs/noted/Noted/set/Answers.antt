use Rattle.timed_queue.proofs.Notes.{noted_set}
use Rattle.timed_queue.proofs.noted.Noted.set.Goals as goal

pub invariant_of-self : goal.invariant_of-self
invariant_of-self c =
    noted_set c.self.inside.flags.items c.note.new.flags.items c.self.inside.queue c.set.new.self c.args.name c.args.t c.set.ensures c.note.ensures.long c.note.ensures.here c.note.ensures.others c.self.invariant
