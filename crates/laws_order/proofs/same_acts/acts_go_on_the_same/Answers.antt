use Rattle.laws_order.proofs.Acting.{acts-same}
use Rattle.laws_order.proofs.same_acts.acts_go_on_the_same.Goals as goal

pub returns : goal.returns
returns c = acts-same
