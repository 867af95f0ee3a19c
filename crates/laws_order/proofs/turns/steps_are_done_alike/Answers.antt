use Rattle.order_free.specs.Free.{Uses}
use Rattle.laws_order.proofs.OneStep.{step-alongside}
use Rattle.laws_order.proofs.turns.steps_are_done_alike.Goals as goal

pub returns : goal.returns
returns c = λ p now other free sees even i at none mine unheard unheard_too. step-alongside (Uses now.design p) (free.acts p) (free.watches p) p now other sees even i none mine unheard unheard_too at
