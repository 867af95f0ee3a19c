use Rattle.laws_order.proofs.Relating.{same-itself, same-flip, same-trans}
use Rattle.laws_order.proofs.relation.being_the_same_is_an_equivalence.Goals as goal

pub returns : goal.returns
returns c = record { itself = same-itself; flipped = same-flip; chained = same-trans }
