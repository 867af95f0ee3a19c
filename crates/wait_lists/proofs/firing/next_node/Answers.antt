use Rattle.std.proofs.Common.{sym, ap}
use Rattle.wait_lists.specs.Chains.{next_of}
use Rattle.wait_lists.proofs.NodeLemmas.{event-read}
use Rattle.wait_lists.proofs.firing.next_node.Goals as goal

pub returns : goal.returns
returns c = sym (ap next_of (event-read c.args.kept.now.nodes.items c.args.i c.index.result.now c.requires c.index.ensures))
