use Rattle.timed_queue.proofs.Due.{held-due_at}
use Rattle.timed_queue.proofs.laws.due_names_are_held.Goals as goal

pub returns : goal.returns
returns c = held-due_at
