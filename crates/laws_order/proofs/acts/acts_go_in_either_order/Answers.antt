use Rattle.order_free.specs.Free.{Uses}
use Rattle.laws_order.proofs.Ruled.{free-apart}
use Rattle.laws_order.proofs.Commuting.{acts-commute}
use Rattle.laws_order.proofs.acts.acts_go_in_either_order.Goals as goal

pub returns : goal.returns
returns c = λ d free p q differ. acts-commute (Uses d p) (Uses d q) (free-apart d free p q differ) p q
