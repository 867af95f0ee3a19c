use Rattle.laws_order.proofs.Beginning.{own-begun}
use Rattle.laws_order.proofs.starts.bodies_begin_on_their_own.Goals as goal

pub returns : goal.returns
returns c = own-begun
