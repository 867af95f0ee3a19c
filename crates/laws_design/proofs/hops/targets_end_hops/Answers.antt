use Rattle.laws_design.proofs.Sockets.{ends_hop}
use Rattle.laws_design.proofs.hops.targets_end_hops.Goals as goal

pub returns : goal.returns
returns c = λ os formed none i o blocking forward at e. ends_hop os formed none i o blocking forward at e
