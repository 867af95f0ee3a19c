use Rattle.order_free.specs.Free.{Uses}
use Rattle.laws_order.proofs.Takings.{two-turns}
use Rattle.laws_order.proofs.Ruled.{free-apart}
use Rattle.laws_order.proofs.turns.turns_go_in_either_order.Goals as goal

pub returns : goal.returns
returns c = λ p q differ n m now between after free empty. two-turns (Uses now.design) (free-apart now.design free) free.acts free.watches p q differ n m now between after empty
