use Rattle.timed_queue.specs.Nodes.{linked}
use Rattle.timed_queue.proofs.chains.link.Goals as goal

pub returns : goal.returns
unfolding linked
returns c = cc
