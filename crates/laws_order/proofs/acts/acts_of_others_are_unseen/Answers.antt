use Rattle.order_free.specs.Free.{Uses}
use Rattle.laws_order.proofs.Ruled.{free-apart}
use Rattle.laws_order.proofs.ProcessViews.{acted-unseen}
use Rattle.laws_order.proofs.acts.acts_of_others_are_unseen.Goals as goal

pub returns : goal.returns
returns c = λ d free p q differ now. acted-unseen (Uses d p) (Uses d q) (free-apart d free p q differ) p now q
