use Rattle.order_free.specs.Free.{Uses}
use Rattle.laws_order.proofs.OneStatement.{statement-alongside}
use Rattle.laws_order.proofs.turns.statements_are_done_alike.Goals as goal

pub returns : goal.returns
returns c = λ p now other free sees even i j homes r t same none. statement-alongside (Uses now.design p) (free.acts p) (free.watches p) p now other sees even i j homes r t same none
