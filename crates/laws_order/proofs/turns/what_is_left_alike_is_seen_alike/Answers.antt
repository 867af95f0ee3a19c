use Rattle.order_free.specs.Free.{Uses}
use Rattle.laws_order.proofs.Takings.{alike-seen}
use Rattle.laws_order.proofs.turns.what_is_left_alike_is_seen_alike.Goals as goal

pub returns : goal.returns
returns c = λ d p. alike-seen (Uses d p) p
