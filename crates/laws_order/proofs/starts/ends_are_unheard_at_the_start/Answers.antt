use Rattle.laws_order.proofs.Beginning.{start-unheard}
use Rattle.laws_order.proofs.starts.ends_are_unheard_at_the_start.Goals as goal

pub returns : goal.returns
returns c = start-unheard
