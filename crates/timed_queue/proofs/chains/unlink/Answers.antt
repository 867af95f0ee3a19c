use Rattle.timed_queue.specs.Nodes.{unlinked}
use Rattle.timed_queue.proofs.chains.unlink.Goals as goal

pub returns : goal.returns
unfolding unlinked
returns c = cc
