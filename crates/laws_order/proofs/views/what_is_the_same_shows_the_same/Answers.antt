use Rattle.laws_order.proofs.Notifying.{now-same}
use Rattle.laws_order.proofs.Shown.{value-same, values-same, trace-same, finals-same, closing-same}
use Rattle.laws_order.proofs.views.what_is_the_same_shows_the_same.Goals as goal

pub returns : goal.returns
returns c = record { cycle = now-same; value = value-same; values = values-same; trace = trace-same; finals = finals-same; closing = closing-same }
