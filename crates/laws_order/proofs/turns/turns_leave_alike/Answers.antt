use Rattle.order_free.specs.Free.{Uses}
use Rattle.laws_order.proofs.Takings.{turn-alike}
use Rattle.laws_order.proofs.turns.turns_leave_alike.Goals as goal

pub returns : goal.returns
returns c = λ p n now after other free alike. turn-alike (Uses now.design p) p now other alike (free.acts p) (free.watches p) n after
