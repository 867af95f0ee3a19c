use Rattle.laws_order.proofs.Relating.{same-start}
use Rattle.laws_order.proofs.relation.runs_begin_the_same.Goals as goal

pub returns : goal.returns
returns c = same-start
