use Rattle.order_free.specs.Free.{Uses}
use Rattle.laws_order.proofs.ProcessViews.{acted-alike}
use Rattle.laws_order.proofs.acts.acts_are_seen_alike.Goals as goal

pub returns : goal.returns
returns c = λ d p. acted-alike (Uses d p) p
