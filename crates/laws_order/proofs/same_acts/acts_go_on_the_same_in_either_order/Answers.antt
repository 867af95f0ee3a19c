use Rattle.laws_order.proofs.Acting.{either-same}
use Rattle.laws_order.proofs.same_acts.acts_go_on_the_same_in_either_order.Goals as goal

pub returns : goal.returns
returns c = λ d free p q apart mine other may others now then same. either-same now then same p q apart mine other (c.many_acts_leave_all_but_drivers_alike.ensures d free p q apart mine other may others now)
