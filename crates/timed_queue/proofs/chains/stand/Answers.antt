use Rattle.timed_queue.specs.Nodes.{standing}
use Rattle.timed_queue.proofs.chains.stand.Goals as goal

pub returns : goal.returns
unfolding standing
returns c = cc
