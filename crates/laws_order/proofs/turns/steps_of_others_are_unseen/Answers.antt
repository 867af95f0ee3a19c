use Rattle.order_free.specs.Free.{Uses}
use Rattle.laws_order.proofs.Ruled.{free-apart}
use Rattle.laws_order.proofs.Others.{step-unseen}
use Rattle.laws_order.proofs.turns.steps_of_others_are_unseen.Goals as goal

pub returns : goal.returns
returns c =
    λ p q differ now free i at none mine unheard after.
    step-unseen (Uses now.design p) (Uses now.design q) (free-apart now.design free p q differ) p q differ now after (free.acts q) (free.watches q) i at none mine unheard
