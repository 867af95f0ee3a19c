use Rattle.order_free.specs.Free.{Uses}
use Rattle.laws_order.proofs.Ruled.{free-apart}
use Rattle.laws_order.proofs.ProcessViews.{all-unseen}
use Rattle.laws_order.proofs.acts.many_acts_are_unseen.Goals as goal

pub returns : goal.returns
returns c = λ d free p q differ. all-unseen (Uses d p) (Uses d q) (free-apart d free p q differ) p q
