use Rattle.order_free.specs.Free.{Uses}
use Rattle.laws_order.proofs.Takings.{turn-lasts}
use Rattle.laws_order.proofs.Ruled.{free-apart}
use Rattle.laws_order.proofs.turns.turns_do_not_depend_on_others.Goals as goal

pub returns : goal.returns
returns c = λ p n now before after other free empty. turn-lasts (Uses now.design) (free-apart now.design free) free.acts free.watches p n now before after other empty
