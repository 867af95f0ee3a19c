use Rattle.order_free.specs.Free.{Uses}
use Rattle.laws_order.proofs.OneTurn.{turn-unseen}
use Rattle.laws_order.proofs.Ruled.{free-apart}
use Rattle.laws_order.proofs.turns.turns_of_others_are_unseen.Goals as goal

pub returns : goal.returns
returns c = λ p q differ n now after free turn mine. turn-unseen (Uses now.design p) (Uses now.design q) (free-apart now.design free p q differ) (free.acts q) (free.watches q) p q differ n now after turn mine
