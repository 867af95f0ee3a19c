use Rattle.order_free.specs.Free.{Uses}
use Rattle.laws_order.proofs.OneTurn.{goes-unheard, done-alike}
use Rattle.laws_order.proofs.turns.turns_are_done_alike.Goals as goal

pub returns : goal.returns
returns c =
    λ p n now after free turn mine other sees even unheard.
    done-alike (Uses now.design p) (free.acts p) (free.watches p) p n now after turn mine other sees even (goes-unheard (Uses now.design p) (free.acts p) (free.watches p) p n now after turn other unheard)
