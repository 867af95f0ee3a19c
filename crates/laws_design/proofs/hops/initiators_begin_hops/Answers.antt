use Rattle.laws_design.proofs.Sockets.{begins_hop}
use Rattle.laws_design.proofs.hops.initiators_begin_hops.Goals as goal

pub returns : goal.returns
returns c = λ os formed none i o backward at e. begins_hop os formed none i o backward at e
